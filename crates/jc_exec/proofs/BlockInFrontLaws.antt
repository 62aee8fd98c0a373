-- Whether a block stands in front of a text, and which.
use Rattle.std.proofs.Common.{◌≡◌, ◌≢◌, ◌⊎◌, inl, inr, ℕ, ◌<◌, Bool, true, false, List, [], ◌∷◌, ◌++◌, length, take, drop, Option, Some, None, bytes_eq, nat_eq, refl, sym, ◌∙◌, ap, subst, arith, length-append}
use Rattle.std.proofs.lemmas.Bool.{eqb-true, eqb-false, false≢true}
use Rattle.std.proofs.lemmas.List.{take_at, take-append-drop}
use Rattle.std.proofs.lemmas.Slice.Eq.{bytes_eq-Decides}
use Rattle.std.proofs.lemmas.Option.{same_Some}
use Rattle.jc_bytes.specs.Modified.{IsModified}
use Rattle.jc_bytes.specs.Deciding.{is_modified_text}
use Rattle.jc_bytes.proofs.DecidingLaws.{Decides, modified_decided}
use Rattle.jc_bytes.proofs.OptionLaws.{some_none}
use Rattle.jc_exec.specs.declared.hits.ClassHits.{ClassHits}
use Rattle.jc_exec.specs.declared.session.Session.{Session}
use Rattle.jc_exec.specs.Format.{Block, header, session, class, header_text, IsSessionBlock, IsClassBlock, IsBlock}
use Rattle.jc_exec.specs.Reading.{class_at, session_at, version_at}
use Rattle.jc_exec.specs.Refusing.{HasOtherHeader}
use Rattle.jc_exec.proofs.BlockLaws.{class_takes, class_again}
use Rattle.jc_exec.proofs.HeaderLaws.{version_takes, version_again}
use Rattle.jc_exec.proofs.ListLaws.{session_takes, session_again, no_block}

abbrev pub Decided : Type 0 → Type 0
Decided P = P ⊎ (P → ⊥)

by_test : {P : Type 0} (test : Bool) → Decides test P → Decided P
by_test true decides = inl (decides.to refl)
by_test false decides = inr (λ holds. false≢true (decides.back holds))

modified_or_not : (bytes : List ℕ) → Decided (IsModified bytes)
modified_or_not bytes = by_test (is_modified_text bytes) (modified_decided bytes)

header_decided : (text : List ℕ) → ((rest : List ℕ) × (text ≡ header_text ++ rest)) ⊎ ((rest : List ℕ) → text ≢ header_text ++ rest)
header_decided text = by (bytes_eq (take 5 text) header_text) refl
  where
    by : (b : Bool) → bytes_eq (take 5 text) header_text ≡ b → ((rest : List ℕ) × (text ≡ header_text ++ rest)) ⊎ ((rest : List ℕ) → text ≢ header_text ++ rest)
    by true is = inl (drop 5 text, sym (take-append-drop 5 text) ∙ ap (λ (l : List ℕ). l ++ drop 5 text) ((bytes_eq-Decides (take 5 text) header_text).0 is))
    by false is = inr (λ rest e. false≢true (sym is ∙ (bytes_eq-Decides (take 5 text) header_text).1 (ap (take 5) e ∙ take_at header_text rest 5 refl)))

-- ---- a header of another version

pub other_header_decided : (text : List ℕ) → ((found : ℕ) × HasOtherHeader text found) ⊎ ((found : ℕ) → HasOtherHeader text found → ⊥)
other_header_decided text = by (version_at text) refl
  where
    by : (o : Option (ℕ × List ℕ)) → version_at text ≡ o → ((found : ℕ) × HasOtherHeader text found) ⊎ ((found : ℕ) → HasOtherHeader text found → ⊥)
    by None none = inr (λ found h. some_none (sym (version_again text h.version h.more found h.parts h.value) ∙ none))
    by (Some (v, more)) is = version (nat_eq v 0x1007) refl
      where
        version : (b : Bool) → nat_eq v 0x1007 ≡ b → ((found : ℕ) × HasOtherHeader text found) ⊎ ((found : ℕ) → HasOtherHeader text found → ⊥)
        version true own = inr
            (λ found h. h.other (ap (λ (r : ℕ × List ℕ). r.0)
            (same_Some (found, h.more) (v, more) (sym (version_again text h.version h.more found h.parts h.value) ∙ is)) ∙ eqb-true v 0x1007 own))
        version false other = let t = version_takes text v more is in inl (v, record { version = t.0; more = more; parts = t.1; value = t.2; other = eqb-false v 0x1007 other })

-- ---- the block in front

-- some block stands in front
pub record HasBlock (text : List ℕ) : Type 0 where
  pub block : Block
  pub front : List ℕ
  pub more : List ℕ
  pub parts : text ≡ front ++ more
  pub is : IsBlock front block

-- no session, and no class, stands in front
abbrev NoSession : List ℕ → Type 0
NoSession text = (s : Session) (front more : List ℕ) → text ≡ front ++ more → IsSessionBlock front s → ⊥

abbrev NoClass : List ℕ → Type 0
NoClass text = (c : ClassHits) (front more : List ℕ) → text ≡ front ++ more → IsClassBlock front c → ⊥

abbrev pub NoBlock : List ℕ → Type 0
NoBlock text = (b : Block) (front more : List ℕ) → text ≡ front ++ more → IsBlock front b → ⊥

session_decided : (text : List ℕ) → HasBlock text ⊎ NoSession text
session_decided text = by (session_at text) refl
  where
    by : (o : Option (Session × List ℕ)) → session_at text ≡ o → HasBlock text ⊎ NoSession text
    by None none = inr (λ s front more parts block. some_none (sym (session_again front more s block) ∙ ap session_at (sym parts) ∙ none))
    by (Some (s, more)) is = elim (modified_or_not s.id) [
      | inl valid ↦ (let t = session_takes text (s, more) is in inl (record { block = session s; front = t.text; more = more; parts = t.parts; is = t.block valid }))
      | inr other ↦ inr (λ x front rest parts block.
          let same : (x, rest) ≡ (s, more) = same_Some (x, rest) (s, more) (sym (session_again front rest x block) ∙ ap session_at (sym parts) ∙ is) in
          other (subst (λ (r : Session × List ℕ). IsModified r.0.id) same block.2.text))
    ]

class_decided : (text : List ℕ) → HasBlock text ⊎ NoClass text
class_decided text = by (class_at text) refl
  where
    by : (o : Option (ClassHits × List ℕ)) → class_at text ≡ o → HasBlock text ⊎ NoClass text
    by None none = inr (λ c front more parts block. some_none (sym (class_again front more c block) ∙ ap class_at (sym parts) ∙ none))
    by (Some (c, more)) is = elim (modified_or_not c.name) [
      | inl valid ↦ (let t = class_takes text (c, more) is in inl (record { block = class c; front = t.text; more = more; parts = t.parts; is = t.block valid }))
      | inr other ↦ inr (λ x front rest parts block.
          let same : (x, rest) ≡ (c, more) = same_Some (x, rest) (c, more) (sym (class_again front rest x block) ∙ ap class_at (sym parts) ∙ is) in
          other (subst (λ (r : ClassHits × List ℕ). IsModified r.0.name) same block.2.text))
    ]

none_of : (text : List ℕ) → ((more : List ℕ) → text ≢ header_text ++ more) → NoSession text → NoClass text → NoBlock text
none_of text no_header no_session no_class header front more parts block = no_header more (parts ∙ ap (λ (l : List ℕ). l ++ more) block)
none_of text no_header no_session no_class (session s) front more parts block = no_session s front more parts block
none_of text no_header no_session no_class (class c) front more parts block = no_class c front more parts block

pub block_decided : (text : List ℕ) → HasBlock text ⊎ NoBlock text
block_decided text = elim (header_decided text) [
  | inl h ↦ inl (record { block = header; front = header_text; more = h.0; parts = h.1; is = refl })
  | inr no_header ↦ elim (session_decided text) [
    | inl s ↦ inl s
    | inr no_session ↦ elim (class_decided text) [
      | inl c ↦ inl c
      | inr no_class ↦ inr (none_of text no_header no_session no_class)
    ]
  ]
]

-- a block is not empty
pub shorter : (b : Block) (text front more : List ℕ) → IsBlock front b → text ≡ front ++ more → length more < length text
shorter b text front more block parts = by front block parts
  where
    by : (front : List ℕ) → IsBlock front b → text ≡ front ++ more → length more < length text
    by [] block parts = absurd (no_block b [] [] [] block refl refl)
    by (x ∷ front) block parts = omega (arith, ap length parts, length-append (x ∷ front) more)
