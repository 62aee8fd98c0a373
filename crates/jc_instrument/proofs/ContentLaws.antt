-- What entries of a pool stand for is found by their kinds, and stays while the pool grows.
use Rattle.std.proofs.Common.{◌≡◌, ℕ, ℤ, List, [], Option, Some, None, refl, sym, ◌∙◌, ap, subst, arith}
use Rattle.std.specs.Bool.{⊤}
use Rattle.std.proofs.lemmas.Option.{none-some, same_Some}
use Rattle.std.specs.Option.{option_map}
use Rattle.jc_bytes.specs.Decoder.{◌>>=◌}
use Rattle.jc_bytes.proofs.OptionLaws.{map_some}
use Rattle.jc_pool.specs.Adding.{IsNowhere, IsMemberTag, Extends}
use Rattle.jc_pool.specs.Index.{entry_naming}
use Rattle.jc_pool.specs.Lookup.{entry_of, utf8_in, utf8_of, class_name_of, string_of, integer_in, integer_of, long_in, long_of, Signature, signature_of, Member, member_in, member_of, dynamic_of, handle_of, computed_of}
use Rattle.jc_pool.specs.Pool.{PoolValue}
use Rattle.jc_pool.specs.declared.entry.Entry.{Entry}
use Rattle.jc_pool.specs.declared.entry.Entry.TheVariants as entry
use Rattle.jc_pool.specs.declared.index.Naming.TheVariants as naming
use Rattle.jc_pool.proofs.AddedLaws.{utf8_kept, naming_kept, integer_kept, long_kept, entry_kept, utf8_there, naming_there, integer_there, long_there}
use Rattle.jc_pool.proofs.AddedLinkedLaws.{handle_kept, computed_kept, handle_there, computed_there}
use Rattle.jc_pool.proofs.AddedMemberLaws.{signature_kept, member_kept, signature_there, member_there}
use Rattle.jc_pool.proofs.KeyPlaceLaws.{has_name, has_signature}
use Rattle.jc_pool.proofs.LinkedKeyLaws.{has_handle, has_computed}
use Rattle.jc_instrument.specs.Contents.{Content, text_entry, class_entry, string_entry, integer_entry, long_entry, signature_entry, member_entry, handle_entry, computed_entry, content_by, content_of, Takes, IsOfClass}

-- what is found of a content's kind at a place
abbrev pub IsFound : PoolValue → ℕ → Content → Type 0
IsFound pool place (text_entry text) = utf8_of pool place ≡ Some text
IsFound pool place (class_entry name) = class_name_of pool place ≡ Some name
IsFound pool place (string_entry text) = string_of pool place ≡ Some text
IsFound pool place (integer_entry value) = integer_of pool place ≡ Some value
IsFound pool place (long_entry value) = long_of pool place ≡ Some value
IsFound pool place (signature_entry s) = signature_of pool place ≡ Some s
IsFound pool place (member_entry m) = member_of pool place ≡ Some m
IsFound pool place (handle_entry h) = handle_of pool place ≡ Some h
IsFound pool place (computed_entry c) = computed_of pool place ≡ Some c

-- an entry that is read as a member, and stands for a computed constant
abbrev IsComputed : Option Entry → Type 0
IsComputed (Some (entry.Dynamic bootstrap rest)) = ⊤
IsComputed other = ⊥

-- a member doesn't stand there as a computed constant
abbrev pub IsApart : Content → Option Entry → Type 0
IsApart (member_entry m) there = IsComputed there → ⊥
IsApart content there = ⊤

-- ---- from the one to the other

read_some : {X : Type 0} (f : Entry → Option X) (o : Option Entry) (x : X) → (o >>= f) ≡ Some x → (e : Entry) × (o ≡ Some e) × (f e ≡ Some x)
read_some f None x is = absurd (none-some x is)
read_some f (Some e) x is = (e, refl, is)

module _ (pool : PoolValue) (place : ℕ) where
  found_by : {X : Type 0} (content : X → Content) (o : Option X) (c : Content) → ((x : X) → o ≡ Some x → IsFound pool place (content x)) → option_map content o ≡ Some c → IsFound pool place c
  found_by content o c each is = let m = map_some content o c is in subst (IsFound pool place) m.2 (each m.0 m.1)

  is_found_by : (o : Option Entry) (c : Content) → content_by pool place o ≡ Some c → IsFound pool place c
  is_found_by (Some (entry.Utf8 text)) c is = found_by text_entry (utf8_of pool place) c (λ x h. h) is
  is_found_by (Some (entry.Class name)) c is = found_by class_entry (class_name_of pool place) c (λ x h. h) is
  is_found_by (Some (entry.String text)) c is = found_by string_entry (string_of pool place) c (λ x h. h) is
  is_found_by (Some (entry.Integer value)) c is = found_by integer_entry (integer_of pool place) c (λ x h. h) is
  is_found_by (Some (entry.Long value)) c is = found_by long_entry (long_of pool place) c (λ x h. h) is
  is_found_by (Some (entry.NameAndType name desc)) c is = found_by signature_entry (signature_of pool place) c (λ x h. h) is
  is_found_by (Some (entry.Fieldref a b)) c is = found_by member_entry (member_of pool place) c (λ x h. h) is
  is_found_by (Some (entry.Methodref a b)) c is = found_by member_entry (member_of pool place) c (λ x h. h) is
  is_found_by (Some (entry.InterfaceMethodref a b)) c is = found_by member_entry (member_of pool place) c (λ x h. h) is
  is_found_by (Some (entry.Dynamic a b)) c is = found_by computed_entry (computed_of pool place) c (λ x h. h) is
  is_found_by (Some (entry.MethodHandle a b)) c is = found_by handle_entry (handle_of pool place) c (λ x h. h) is
  is_found_by (Some (entry.InvokeDynamic a b)) c is = found_by member_entry (member_of pool place) c (λ x h. h) is
  is_found_by (Some e) c is = absurd (none-some c is)
  is_found_by None c is = absurd (none-some c is)

  pub of_content : (c : Content) → content_of pool place ≡ Some c → IsFound pool place c
  unfolding content_of
  of_content c is = is_found_by (entry_of pool place) c is

  apart_by : (o : Option Entry) (c : Content) → content_by pool place o ≡ Some c → IsApart c o
  apart_by (Some (entry.Dynamic a b)) (member_entry m) is = λ computed. let r = map_some computed_entry (computed_of pool place) (member_entry m) is in let e = r.2 in absurd (cc e)
  apart_by o (member_entry m) is = λ computed. computed
  apart_by o c is = tt

  pub of_content_apart : (c : Content) → content_of pool place ≡ Some c → IsApart c (entry_of pool place)
  unfolding content_of
  of_content_apart c is = apart_by (entry_of pool place) c is

  -- an entry stands there
  pub has_entry : (c : Content) → content_of pool place ≡ Some c → (e : Entry) × (entry_of pool place ≡ Some e)
  unfolding content_of
  has_entry c is = by (entry_of pool place) refl is
    where
      by : (o : Option Entry) → entry_of pool place ≡ o → content_by pool place o ≡ Some c → (e : Entry) × (entry_of pool place ≡ Some e)
      by None at none = absurd (none-some c none)
      by (Some e) at some = (e, at)

  text_by : (e : Entry) (text : List ℕ) → utf8_in e ≡ Some text → utf8_of pool place ≡ Some text → content_by pool place (Some e) ≡ Some (text_entry text)
  text_by (entry.Utf8 t) text is found = ap (option_map text_entry) found
  text_by e text is found = absurd (none-some text is)

  integer_by : (e : Entry) (value : ℤ) → integer_in e ≡ Some value → integer_of pool place ≡ Some value → content_by pool place (Some e) ≡ Some (integer_entry value)
  integer_by (entry.Integer v) value is found = ap (option_map integer_entry) found
  integer_by e value is found = absurd (none-some value is)

  long_by : (e : Entry) (value : ℤ) → long_in e ≡ Some value → long_of pool place ≡ Some value → content_by pool place (Some e) ≡ Some (long_entry value)
  long_by (entry.Long v) value is found = ap (option_map long_entry) found
  long_by e value is found = absurd (none-some value is)

  member_by : (e : Entry) (m : Member) → IsApart (member_entry m) (Some e) → member_in pool e ≡ Some m → member_of pool place ≡ Some m → content_by pool place (Some e) ≡ Some (member_entry m)
  member_by (entry.Fieldref a b) m apart is found = ap (option_map member_entry) found
  member_by (entry.Methodref a b) m apart is found = ap (option_map member_entry) found
  member_by (entry.InterfaceMethodref a b) m apart is found = ap (option_map member_entry) found
  member_by (entry.Dynamic a b) m apart is found = absurd (apart tt)
  member_by (entry.InvokeDynamic a b) m apart is found = ap (option_map member_entry) found
  member_by e m apart is found = absurd (none-some m is)

  pub text_entry_there : (text : List ℕ) → utf8_of pool place ≡ Some text → (e : Entry) × (entry_of pool place ≡ Some e) × (utf8_in e ≡ Some text)
  unfolding utf8_of
  text_entry_there text found = read_some utf8_in (entry_of pool place) text found

  integer_entry_there : (value : ℤ) → integer_of pool place ≡ Some value → (e : Entry) × (entry_of pool place ≡ Some e) × (integer_in e ≡ Some value)
  unfolding integer_of
  integer_entry_there value found = read_some integer_in (entry_of pool place) value found

  long_entry_there : (value : ℤ) → long_of pool place ≡ Some value → (e : Entry) × (entry_of pool place ≡ Some e) × (long_in e ≡ Some value)
  unfolding long_of
  long_entry_there value found = read_some long_in (entry_of pool place) value found

  member_entry_there : (m : Member) → member_of pool place ≡ Some m → (e : Entry) × (entry_of pool place ≡ Some e) × (member_in pool e ≡ Some m)
  unfolding member_of
  member_entry_there m found = read_some (member_in pool) (entry_of pool place) m found

  stands_by : (e : Entry) (c : Content) → entry_of pool place ≡ Some e → content_by pool place (Some e) ≡ Some c → content_of pool place ≡ Some c
  unfolding content_of
  stands_by e c at is = ap (content_by pool place) at ∙ is

  pub to_content : (c : Content) → IsApart c (entry_of pool place) → IsFound pool place c → content_of pool place ≡ Some c
  to_content (text_entry text) apart found =
      let r = text_entry_there text found in
      stands_by r.0 (text_entry text) r.1 (text_by r.0 text r.2 found)
  to_content (class_entry name) apart found =
      let n = has_name naming.Class pool place name found in
      stands_by (entry_naming naming.Class n.0) (class_entry name) n.1 (ap (option_map class_entry) found)
  to_content (string_entry text) apart found =
      let n = has_name naming.String pool place text found in
      stands_by (entry_naming naming.String n.0) (string_entry text) n.1 (ap (option_map string_entry) found)
  to_content (integer_entry value) apart found =
      let r = integer_entry_there value found in
      stands_by r.0 (integer_entry value) r.1 (integer_by r.0 value r.2 found)
  to_content (long_entry value) apart found =
      let r = long_entry_there value found in
      stands_by r.0 (long_entry value) r.1 (long_by r.0 value r.2 found)
  to_content (signature_entry s) apart found =
      let n = has_signature pool place s found in
      stands_by (entry.NameAndType n.0 n.1) (signature_entry s) n.2 (ap (option_map signature_entry) found)
  to_content (member_entry m) apart found =
      let r = member_entry_there m found in
      stands_by r.0 (member_entry m) r.1 (member_by r.0 m (subst (IsApart (member_entry m)) r.1 apart) r.2 found)
  to_content (handle_entry h) apart found =
      let n = has_handle pool place h found in
      stands_by (entry.MethodHandle h.kind n.0) (handle_entry h) n.1 (ap (option_map handle_entry) found)
  to_content (computed_entry c) apart found =
      let n = has_computed pool place c found in
      stands_by (entry.Dynamic c.bootstrap n.0) (computed_entry c) n.1 (ap (option_map computed_entry) found)

-- ---- what stays, and what is there

found_kept : (old new : PoolValue) (place : ℕ) (c : Content) → Extends old new → IsFound old place c → IsFound new place c
found_kept old new place (text_entry text) more found = utf8_kept old new text place more found
found_kept old new place (class_entry name) more found = naming_kept naming.Class old new name place more found
found_kept old new place (string_entry text) more found = naming_kept naming.String old new text place more found
found_kept old new place (integer_entry value) more found = integer_kept old new value place more found
found_kept old new place (long_entry value) more found = long_kept old new value place more found
found_kept old new place (signature_entry s) more found = signature_kept old new s place more found
found_kept old new place (member_entry m) more found = member_kept old new m place more found
found_kept old new place (handle_entry h) more found = handle_kept old new h place more found
found_kept old new place (computed_entry c) more found = computed_kept old new c place more found

pub content_kept : (old new : PoolValue) (place : ℕ) (c : Content) → Extends old new → content_of old place ≡ Some c → content_of new place ≡ Some c
content_kept old new place c more is =
    let e = has_entry old place c is in
    let stays = entry_kept old new e.0 place more e.1 in
    to_content new place c (subst (IsApart c) (e.1 ∙ sym stays) (of_content_apart old place c is)) (found_kept old new place c more (of_content old place c is))

found_there : (old new : PoolValue) (place : ℕ) (c : Content) → IsOfClass c → Takes old c new place → IsFound new place c
found_there old new place (text_entry text) of takes = utf8_there old new text place takes
found_there old new place (class_entry name) of takes = naming_there naming.Class old new name place takes
found_there old new place (string_entry text) of takes = naming_there naming.String old new text place takes
found_there old new place (integer_entry value) of takes = integer_there old new value place takes
found_there old new place (long_entry value) of takes = long_there old new value place takes
found_there old new place (signature_entry s) of takes = signature_there old s new place takes
found_there old new place (member_entry m) of takes = member_there old new m place of takes
found_there old new place (handle_entry h) of takes = handle_there old new h place of takes
found_there old new place (computed_entry c) of takes = computed_there old new c place takes

-- a field or a method of a class isn't read off a computed constant
signed_tag : (s : Option Signature) (tag : ℕ) (m : Member) → (s >>= λ s. Some (record { tag = tag; class = []; name = s.name; desc = s.desc })) ≡ Some m → m.tag ≡ tag
signed_tag None tag m is = absurd (none-some m is)
signed_tag (Some s) tag m is = sym (ap (λ (x : Member). x.tag) (same_Some _ m is))

dynamic_tag : (pool : PoolValue) (tag rest : ℕ) (m : Member) → dynamic_of pool tag rest ≡ Some m → m.tag ≡ tag
unfolding dynamic_of
dynamic_tag pool tag rest m is = signed_tag (signature_of pool rest) tag m is

member_apart : (pool : PoolValue) (there : Option Entry) (m : Member) → IsMemberTag m.tag → (there >>= member_in pool) ≡ Some m → IsComputed there → ⊥
member_apart pool (Some (entry.Dynamic a b)) m tagged is computed = let tag = dynamic_tag pool 17 b m is in let most = tagged.1 in absurd (omega (arith, tag, most))
member_apart pool other m tagged is computed = computed

apart_there : (pool : PoolValue) (place : ℕ) (c : Content) → IsOfClass c → IsFound pool place c → IsApart c (entry_of pool place)
unfolding member_of
apart_there pool place (member_entry m) of found = member_apart pool (entry_of pool place) m of found
apart_there pool place c of found = tt

pub content_there : (old new : PoolValue) (place : ℕ) (c : Content) → IsOfClass c → Takes old c new place → content_of new place ≡ Some c
content_there old new place c of takes =
    let found = found_there old new place c of takes in
    to_content new place c (apart_there new place c of found) found

-- what is found nowhere by its kind is found nowhere
pub content_nowhere : (pool : PoolValue) (c : Content) → ((place : ℕ) → IsFound pool place c → ⊥) → IsNowhere (content_of pool) c
content_nowhere pool c none place is = none place (of_content pool place c is)
