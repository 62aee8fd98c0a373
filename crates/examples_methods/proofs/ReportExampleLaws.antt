-- The worked examples compute.
use Rattle.std.proofs.Common.{refl}
use Rattle.std.specs.Fmt.{digits}
use Rattle.std.specs.Char.Utf16.{utf16_chars}
use Rattle.std.specs.Prelude.{◌≡◌, ◌++◌, [], ◌∷◌, codes, map}
use Rattle.jc_report.specs.Spelled.{shown}
use Rattle.jc_report.specs.Split.{split_at_last}
use Rattle.jc_report.specs.Rows.{row_of, rows_of}
use Rattle.jc_report.specs.Csv.{header}
use Rattle.examples_methods.specs.ReportExamples.{unordered, counted, file_of, half_covered, not_covered, calculator}

pub zero_is_shown : shown (0xc0 ∷ 0x80 ∷ []) ≡ 0 ∷ []
unfolding shown utf16_chars lib.Utf8.encode
zero_is_shown = refl

pub pair_is_shown : shown (0xed ∷ 0xa0 ∷ 0xbd ∷ 0xed ∷ 0xb8 ∷ 0x80 ∷ []) ≡ 0xf0 ∷ 0x9f ∷ 0x98 ∷ 0x80 ∷ []
unfolding shown utf16_chars lib.Utf8.encode
pair_is_shown = refl

pub half_is_shown : shown (0x41 ∷ 0xed ∷ 0xa0 ∷ 0xbd ∷ []) ≡ 0x41 ∷ 0xed ∷ 0xa0 ∷ 0xbd ∷ []
unfolding shown utf16_chars lib.Utf8.encode
half_is_shown = refl

pub no_text_is_shown : shown (0x41 ∷ 0xff ∷ []) ≡ 0x41 ∷ 0xff ∷ []
unfolding shown utf16_chars lib.Utf8.encode
no_text_is_shown = refl

pub rows_are_in_order : map (λ r. r.id) (rows_of (codes "R") unordered) ≡ 7 ∷ 3 ∷ 9 ∷ 1 ∷ []
unfolding row_of split_at_last shown utf16_chars lib.Utf8.encode
rows_are_in_order = refl

pub nothing_is_filed : file_of (codes "R") ([]) ≡ header
unfolding row_of split_at_last shown digits utf16_chars lib.Utf8.encode
nothing_is_filed = refl

pub half_is_filed : file_of (codes "R") (counted 1 (codes "A") half_covered ∷ []) ≡ header ++ codes "R,default,A,3,4,1,1,0,0,1,1,0,1\n"
unfolding row_of split_at_last shown digits utf16_chars lib.Utf8.encode
half_is_filed = refl

pub missed_is_filed : file_of (codes "R") (counted 1 (codes "A") not_covered ∷ []) ≡ header ++ codes "R,default,A,7,0,2,0,0,0,2,0,1,0\n"
unfolding row_of split_at_last shown digits utf16_chars lib.Utf8.encode
missed_is_filed = refl

pub calculator_is_filed : file_of (codes "JaCoCo Coverage Report") (counted 1 (codes "demo/Calc") calculator ∷ []) ≡ header ++ codes "JaCoCo Coverage Report,demo,Calc,8,8,1,1,3,3,3,2,2,2\n"
unfolding row_of split_at_last shown digits utf16_chars lib.Utf8.encode
calculator_is_filed = refl

pub quoted_is_filed : file_of (codes "a,b") (counted 1 (codes "A") half_covered ∷ []) ≡ header ++ codes "\"a,b\",default,A,3,4,1,1,0,0,1,1,0,1\n"
unfolding row_of split_at_last shown digits utf16_chars lib.Utf8.encode
quoted_is_filed = refl
