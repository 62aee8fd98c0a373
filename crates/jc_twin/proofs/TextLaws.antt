-- Worlds of a program and of its twin that look the same print the same.
use Rattle.std.proofs.Common.{◌≡◌, inl, inr, ℕ, zero, suc, ◌+◌, ◌<◌, false, List, [], ◌∷◌, ◌++◌, length, map, drop, Option, Some, None, refl, sym, ap, ap₂, ◌∙◌, arith, append-nil}
use Rattle.std.specs.Prelude.{codes, slice_get, slice_index_or}
use Rattle.std.specs.Fmt.{signed_decimal}
use Rattle.std.specs.List.{flat_map}
use Rattle.std.proofs.lemmas.Grind.{flat_map-append}
use Rattle.std.proofs.lemmas.List.Concat.{flat_map-cons}
use Rattle.std.proofs.lemmas.Option.{none-some}
use Rattle.jc_bytes.specs.Descriptor.{FieldType, Byte, Char, Double, Float, Int, Long, Short, Boolean, Object, Array}
use Rattle.jc_bytes.proofs.BooleanLaws.{stands_in}
use Rattle.jc_bytes.proofs.ListLaws.{item_at}
use Rattle.jc_methods.specs.DescriptorTypes.{types_from, field_type_in}
use Rattle.jc_methods.specs.VerificationTypes.{Names}
use Rattle.jc_methods.specs.ProbeMembers.{data_name, data_type, fetch_of}
use Rattle.jc_methods.specs.declared.probe_members.Fetch.{Fetch}
use Rattle.jc_methods.specs.declared.probe_members.Fetch.TheVariants as fetches
use Rattle.jc_programs.specs.declared.program.Program.{Program}
use Rattle.jc_programs.specs.declared.program.Linked.{Linked}
use Rattle.jc_programs.specs.declared.program.StaticField.{StaticField}
use Rattle.jc_programs.specs.declared.run_end.End.{End}
use Rattle.jc_programs.specs.declared.run_end.Entry.{Entry}
use Rattle.jc_programs.specs.declared.run_end.StaticEnd.{StaticEnd}
use Rattle.jc_emit.specs.Added.{data_static, added_statics}
use Rattle.jc_emit.specs.Marks.{Marks}
use Rattle.jc_twin_programs.specs.TwinProgram.{IsPair, ArePairs, TwinProgram}
use Rattle.jc_machine_model.specs.Values.{Value}
use Rattle.jc_machine_model.specs.World.{Thread, running, returned, threw, stuck, World}
use Rattle.jc_machine_model.specs.CaseEnds.{number_of, end_of, field_end, field_ends, class_ends, case_end_in}
use Rattle.jc_machine_model.specs.CaseText.{line, case_line, case_text, field_line, static_text, thread_lines}
use Rattle.jc_twin_simulation.specs.Same.{is_named_data, is_data_in, SameThread, SameThreads, Same}
use Rattle.jc_twin_simulation.proofs.ClassLaws.{other_name}

-- ---- the lines of static fields, in order, without their numbers

abbrev named_line : (class field : List ℕ) → Value → List ℕ
named_line class field v = line (codes "static " ++ (class ++ (46 ∷ (field ++ (32 ∷ signed_decimal (number_of v))))))

abbrev line_of : (class field : List ℕ) → Option FieldType → Value → List ℕ
line_of class field None v = []
line_of class field (Some Float) v = []
line_of class field (Some Double) v = []
line_of class field (Some (Object name)) v = []
line_of class field (Some (Array component)) v = []
line_of class field (Some type) v = named_line class field v

abbrev lines_of : (class : List ℕ) → List StaticField → List Value → List ℕ
lines_of class [] values = []
lines_of class (f ∷ fields) [] = []
lines_of class (f ∷ fields) (v ∷ values) = line_of class f.name (field_type_in f.desc) v ++ lines_of class fields values

abbrev all_lines : List Linked → List (List Value) → List ℕ
all_lines [] statics = []
all_lines (c ∷ classes) statics = lines_of c.name c.statics (slice_index_or statics 0 []) ++ all_lines classes (drop 1 statics)

no_values : (class : List ℕ) (fields : List StaticField) → lines_of class fields [] ≡ []
no_values class [] = refl
no_values class (f ∷ fields) = refl

no_statics : (classes : List Linked) → all_lines classes [] ≡ []
no_statics [] = refl
no_statics (c ∷ classes) = ap₂ (λ (x y : List ℕ). x ++ y) (no_values c.name c.statics) (no_statics classes)

-- ---- they are what is printed of the static fields

-- behind the first one, items are told by their numbers as before
behind : {X : Type 0} (xs rest : List X) (k : ℕ) (x : X) → ((i : ℕ) → slice_get xs (k + i) ≡ slice_get (x ∷ rest) i)
    → (i : ℕ) → slice_get xs (k + 1 + i) ≡ slice_get rest i
behind xs rest k x h i = ap (slice_get xs) (let n : k + 1 + i ≡ k + suc i = omega arith in n) ∙ h (suc i)

from_first : {X : Type 0} (xs : List X) (i : ℕ) → slice_get xs (0 + i) ≡ slice_get xs i
from_first xs i = ap (slice_get xs) (let n : 0 + i ≡ i = omega arith in n)

first : {X : Type 0} (xs rest : List X) (k : ℕ) (x : X) → ((i : ℕ) → slice_get xs (k + i) ≡ slice_get (x ∷ rest) i) → slice_get xs k ≡ Some x
first xs rest k x h = ap (slice_get xs) (let n : k ≡ k + 0 = omega arith in n) ∙ h 0

module _ (p : Program) where
  one_line : (class field : ℕ) (c : Linked) (f : StaticField) (v : Value) → slice_get p.classes class ≡ Some c → slice_get c.statics field ≡ Some f
      → (o : Option FieldType) → flat_map (static_text p) (field_end class field o v) ≡ line_of c.name f.name o v
  one_line class field c f v is has = by
    where
      ended : StaticEnd
      ended = record { class = class; field = field; value = number_of v }

      there : flat_map (static_text p) (ended ∷ []) ≡ named_line c.name f.name v
      there =
          flat_map-cons (static_text p) ended [] ∙ append-nil (static_text p ended)
          ∙ ap (λ (o : Option Linked). elim o [ None ↦ [] | Some d ↦ field_line d ended ]) is
          ∙ ap (λ (o : Option StaticField). elim o [ None ↦ [] | Some g ↦ named_line c.name g.name v ]) has

      by : (o : Option FieldType) → flat_map (static_text p) (field_end class field o v) ≡ line_of c.name f.name o v
      by None = refl
      by (Some Byte) = there
      by (Some Char) = there
      by (Some Double) = refl
      by (Some Float) = refl
      by (Some Int) = there
      by (Some Long) = there
      by (Some Short) = there
      by (Some Boolean) = there
      by (Some (Object name)) = refl
      by (Some (Array component)) = refl

  class_lines : (class : ℕ) (c : Linked) → slice_get p.classes class ≡ Some c → (k : ℕ) (rest : List StaticField) (values : List Value)
      → ((i : ℕ) → slice_get c.statics (k + i) ≡ slice_get rest i)
      → flat_map (static_text p) (field_ends class k rest values) ≡ lines_of c.name rest values
  class_lines class c is k [] values h = refl
  class_lines class c is k (f ∷ rest) [] h = refl
  class_lines class c is k (f ∷ rest) (v ∷ values) h =
      flat_map-append (static_text p) (field_end class k (field_type_in f.desc) v) (field_ends class (k + 1) rest values)
      ∙ ap₂ (λ (x y : List ℕ). x ++ y) (one_line class k c f v is (first c.statics rest k f h) (field_type_in f.desc))
      (class_lines class c is (k + 1) rest values (behind c.statics rest k f h))

  program_lines : (k : ℕ) (rest : List Linked) (statics : List (List Value)) → ((i : ℕ) → slice_get p.classes (k + i) ≡ slice_get rest i)
      → flat_map (static_text p) (class_ends k rest statics) ≡ all_lines rest statics
  program_lines k [] statics h = refl
  program_lines k (c ∷ rest) [] h = sym (no_statics (c ∷ rest))
  program_lines k (c ∷ rest) (values ∷ statics) h =
      flat_map-append (static_text p) (field_ends k 0 c.statics values) (class_ends (k + 1) rest statics)
      ∙ ap₂ (λ (x y : List ℕ). x ++ y) (class_lines k c (first p.classes rest k c h) 0 c.statics values (λ i. from_first c.statics i))
      (program_lines (k + 1) rest statics (behind p.classes rest k c h))

-- ---- a class and its twin

same_lines : (class : List ℕ) (fields : List StaticField) (values others : List Value)
    → ((i : ℕ) → i < length fields → slice_get others i ≡ slice_get values i) → lines_of class fields others ≡ lines_of class fields values
same_lines class [] values others h = refl
same_lines class (f ∷ fields) [] [] h = refl
same_lines class (f ∷ fields) [] (x ∷ others) h = absurd (none-some x (sym (h 0 (omega arith))))
same_lines class (f ∷ fields) (v ∷ values) [] h = absurd (none-some v (h 0 (omega arith)))
same_lines class (f ∷ fields) (v ∷ values) (x ∷ others) h =
    let is : x ≡ v = by (h 0 (omega arith)) in
    ap₂ (λ (a b : List ℕ). a ++ b) (ap (line_of class f.name (field_type_in f.desc)) is)
    (same_lines class fields values others (λ i lt. h (suc i) (omega (arith, lt))))
  where
    by : Some x ≡ Some v → x ≡ v
    by e = cc

-- the field of the probe array has no line
data_type_is : field_type_in data_type ≡ Some (Array Boolean)
unfolding types_from
data_type_is = refl

without_data : (class : List ℕ) (fields : List StaticField) (values : List Value)
    → lines_of class (fields ++ data_static ∷ []) values ≡ lines_of class fields values
without_data class [] [] = refl
without_data class [] (v ∷ values) = ap (λ (o : Option FieldType). line_of class data_name o v ++ []) data_type_is
without_data class (f ∷ fields) [] = refl
without_data class (f ∷ fields) (v ∷ values) =
    ap (λ (l : List ℕ). line_of class f.name (field_type_in f.desc) v ++ l) (without_data class fields values)

without_added : (fetch : Fetch) (class : List ℕ) (fields : List StaticField) (values : List Value)
    → lines_of class (fields ++ added_statics fetch) values ≡ lines_of class fields values
without_added fetches.Member class fields values = without_data class fields values
without_added fetches.Constant class fields values = ap (λ (l : List StaticField). lines_of class l values) (append-nil fields)

get_before : {X : Type 0} (xs ys : List X) (i : ℕ) → i < length xs → slice_get (xs ++ ys) i ≡ slice_get xs i
get_before [] ys i lt = absurd (omega arith)
get_before (x ∷ xs) ys zero lt = refl
get_before (x ∷ xs) ys (suc i) lt = get_before xs ys i (omega arith)

module _ (names new_names : Names) where
  -- the fields of the original aren't that of the probe array
  not_data : (c new : Linked) → IsPair names new_names c new → (i : ℕ) → i < length c.statics → is_named_data (slice_get new.statics i) ≡ false
  not_data c new (inl pair) i lt =
      let f = item_at c.statics i lt in
      ap is_named_data (ap (λ (l : List StaticField). slice_get l i) pair.statics ∙ f.1)
      ∙ other_name (f.0).name data_name (λ same. pair.none_added.statics f.0 (stands_in c.statics i f.0 f.1) same)
  not_data c new (inr pair) i lt =
      let f = item_at c.statics i lt in
      ap is_named_data (ap (λ (l : List StaticField). slice_get l i) pair.statics ∙ get_before c.statics (added_statics (fetch_of c.version)) i lt ∙ f.1)
      ∙ other_name (f.0).name data_name (λ same. pair.none_added.statics f.0 (stands_in c.statics i f.0 f.1) (inr same))

  same_class : (c new : Linked) → IsPair names new_names c new → (values others : List Value)
      → ((i : ℕ) → i < length c.statics → slice_get others i ≡ slice_get values i)
      → lines_of new.name new.statics others ≡ lines_of c.name c.statics values
  same_class c new (inl pair) values others h =
      ap₂ (λ (n : List ℕ) (l : List StaticField). lines_of n l others) pair.name pair.statics ∙ same_lines c.name c.statics values others h
  same_class c new (inr pair) values others h =
      ap₂ (λ (n : List ℕ) (l : List StaticField). lines_of n l others) pair.name pair.statics
      ∙ without_added (fetch_of c.version) c.name c.statics others ∙ same_lines c.name c.statics values others h

  same_classes : (classes twins : List Linked) → ArePairs names new_names classes twins → (statics others : List (List Value))
      → ((k i : ℕ) → is_data_in i (slice_get twins k) ≡ false → slice_get (slice_index_or others k []) i ≡ slice_get (slice_index_or statics k []) i)
      → all_lines twins others ≡ all_lines classes statics
  same_classes [] [] pairs statics others h = refl
  same_classes [] (n ∷ twins) pairs statics others h = absurd pairs
  same_classes (c ∷ classes) [] pairs statics others h = absurd pairs
  same_classes (c ∷ classes) (n ∷ twins) pairs statics others h =
      ap₂ (λ (x y : List ℕ). x ++ y)
      (same_class c n pairs.0 (slice_index_or statics 0 []) (slice_index_or others 0 []) (λ i lt. h 0 i (not_data c n pairs.0 i lt)))
      (same_classes classes twins pairs.1 (drop 1 statics) (drop 1 others)
      (λ k i other. ap (λ (l : List Value). slice_get l i) (next others k) ∙ h (suc k) i other ∙ sym (ap (λ (l : List Value). slice_get l i) (next statics k))))
    where
      next : (l : List (List Value)) (k : ℕ) → slice_index_or (drop 1 l) k [] ≡ slice_index_or l (suc k) []
      next [] k = refl
      next (x ∷ l) k = refl

-- ---- a case

module _ (p p' : Program) (marks : Entry → Marks) where
  same_end : (x y : Thread) → SameThread p' marks x y → end_of y ≡ end_of x
  same_end (running f waiting) (running g others) h = refl
  same_end (running f waiting) (returned v) h = absurd h
  same_end (running f waiting) (threw c) h = absurd h
  same_end (running f waiting) (stuck m q) h = absurd h
  same_end (returned v) (running g others) h = absurd h
  same_end (returned v) (returned x) h = ap (λ r. end_of (returned r)) h
  same_end (returned v) (threw c) h = absurd h
  same_end (returned v) (stuck m q) h = absurd h
  same_end (threw c) (running g others) h = absurd h
  same_end (threw c) (returned v) h = absurd h
  same_end (threw c) (threw d) h = ap (λ r. end_of (threw r)) h
  same_end (threw c) (stuck m q) h = absurd h
  same_end (stuck m q) (running g others) h = absurd h
  same_end (stuck m q) (returned v) h = absurd h
  same_end (stuck m q) (threw c) h = absurd h
  same_end (stuck m q) (stuck n r) h = refl

  same_ends : (xs ys : List Thread) → SameThreads p' marks xs ys → map end_of ys ≡ map end_of xs
  same_ends [] [] h = refl
  same_ends [] (y ∷ ys) h = absurd h
  same_ends (x ∷ xs) [] h = absurd h
  same_ends (x ∷ xs) (y ∷ ys) h = ap₂ (λ (e : End) (es : List End). e ∷ es) (same_end x y h.0) (same_ends xs ys h.1)

  same_lines_of : TwinProgram p p' → (w w' : World) → Same p' marks w w'
      → flat_map (static_text p') (class_ends 0 p'.classes w'.shared.statics) ≡ flat_map (static_text p) (class_ends 0 p.classes w.shared.statics)
  same_lines_of twin w w' same =
      program_lines p' 0 p'.classes w'.shared.statics (λ i. from_first p'.classes i)
      ∙ same_classes p.names p'.names p.classes p'.classes twin.pairs w.shared.statics w'.shared.statics (λ k i other. same.statics k i other)
      ∙ sym (program_lines p 0 p.classes w.shared.statics (λ i. from_first p.classes i))

  pub same_text : TwinProgram p p' → (w w' : World) → Same p' marks w w' → (k : ℕ)
      → case_text p' k (case_end_in p' w') ≡ case_text p k (case_end_in p w)
  same_text twin w w' same k =
      ap (λ (l : List ℕ). case_line k ++ l)
      (ap₂ (λ (x y : List ℕ). x ++ y) same.output
      (ap₂ (λ (x y : List ℕ). x ++ y) (ap (thread_lines 0) (same_ends w.threads w'.threads same.threads)) (same_lines_of twin w w' same)))
