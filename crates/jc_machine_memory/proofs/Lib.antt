mod ReadLaws
mod HeapLaws
mod FrameLaws
