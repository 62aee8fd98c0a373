-- The class that the bytes of a sample are the text of (JVM Specification 4.1 to 4.7.3).
use Rattle.std.specs.Prelude.{ℕ, ◌+◌, [], ◌∷◌, map, Some, None, codes}
use Rattle.std.specs.List.{range_with_len}
use Rattle.jc_pool.specs.declared.entry.Entry.TheVariants as entry
use Rattle.jc_pool.specs.Pool.{PoolValue}
use Rattle.jc_class.specs.declared.class_file.ClassFile.{ClassFile}
use Rattle.jc_class.specs.declared.class_file.Member.{Member}
use Rattle.jc_command_sample.specs.SampleFile.{sample_class, method_name, code_body}

-- nothing stands at place 0; the names of the methods stand at the places from 8 on
abbrev pub sample_pool : (methods : ℕ) → PoolValue
sample_pool n =
    None
    ∷ Some (entry.Utf8 sample_class) ∷ Some (entry.Class 1)
    ∷ Some (entry.Utf8 (codes "java/lang/Object")) ∷ Some (entry.Class 3)
    ∷ Some (entry.Utf8 (codes "Code")) ∷ Some (entry.Utf8 (codes "StackMapTable")) ∷ Some (entry.Utf8 (codes "(I)I"))
    ∷ map (λ k. Some (entry.Utf8 (method_name k))) (range_with_len 0 n)

-- the method with this number: public and static
abbrev pub sample_method : (number : ℕ) → Member
sample_method k = record { flags = 0x0009; name = 8 + k; desc = 7; attributes = record { name = 5; body = code_body k } ∷ [] }

abbrev pub sample_class_file : (methods : ℕ) → ClassFile
sample_class_file n = record {
  minor = 0;
  major = 52;
  pool = sample_pool n;
  flags = 0x0021;
  this_class = 2;
  super_class = 4;
  interfaces = [];
  fields = [];
  methods = map sample_method (range_with_len 0 n);
  attributes = [];
}
