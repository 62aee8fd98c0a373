pub mod SampleClass
