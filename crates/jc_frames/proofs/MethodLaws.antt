-- Offsets of a method's instructions, and the types that frames list.
use Rattle.std.proofs.Common.{◌≡◌, ℕ, ◌+◌, ◌-◌, ◌<◌, List, [], ◌∷◌, ◌++◌, get_or, All, Option, Some, None, option_map, refl, sym, ◌∙◌, ap, arith, append_assoc}
use Rattle.std.proofs.lemmas.List.{get_or_default, append-nil}
use Rattle.jc_methods.specs.VerificationTypes.{VerificationType}
use Rattle.jc_frames.specs.declared.items.TypeItem.{TypeItem}
use Rattle.jc_frames.specs.Frames.{Ground, type_of, in_front, types_of}
use Rattle.jc_frames.specs.WellMade.{AreOffsets}
use Rattle.jc_frames.proofs.WellMadeLaws.{sorted}

-- no offset lies behind the end of the code
pub all_within : (insns size : ℕ) (starts : List ℕ) → AreOffsets insns starts → size ≡ get_or starts insns 0 + 1 → All (λ start. start < size) starts
all_within insns size starts o is k d lt =
    let many = o.count in
    let e : k + (insns - k) ≡ insns = omega (arith, many, lt) in
    let s = sorted starts insns k (insns - k) o.rising (omega (arith, many, lt)) in
    let z = ap (λ (i : ℕ). get_or starts i 0) e in
    let same = get_or_default starts k d 0 lt in
    omega (arith, s, z, same, is)

-- ---- types, one by one

abbrev pub behind : List VerificationType → Option (List VerificationType) → Option (List VerificationType)
behind hs o = option_map (λ more. hs ++ more) o

pub one_typed : (g : Ground) (hs : List VerificationType) (items rest : List TypeItem) (item : TypeItem) (h : VerificationType) → items ≡ item ∷ rest → type_of g item ≡ Some h
    → behind hs (types_of g items) ≡ behind (hs ++ h ∷ []) (types_of g rest)
one_typed g hs items rest item h is says =
    ap (λ (l : List TypeItem). behind hs (types_of g l)) is ∙ ap (λ (o : Option VerificationType). behind hs (in_front o (types_of g rest))) says ∙ by (types_of g rest)
  where
    by : (o : Option (List VerificationType)) → behind hs (in_front (Some h) o) ≡ behind (hs ++ h ∷ []) o
    by (Some more) = ap Some (sym (append_assoc hs (h ∷ []) more))
    by None = refl

pub none_typed : (g : Ground) (hs : List VerificationType) (items rest : List TypeItem) (item : TypeItem) → items ≡ item ∷ rest → type_of g item ≡ None
    → behind hs (types_of g items) ≡ None
none_typed g hs items rest item is none =
    ap (λ (l : List TypeItem). behind hs (types_of g l)) is ∙ ap (λ (o : Option VerificationType). behind hs (in_front o (types_of g rest))) none

pub all_typed : (g : Ground) (hs : List VerificationType) (items : List TypeItem) → items ≡ [] → behind hs (types_of g items) ≡ Some hs
all_typed g hs items is = ap (λ (l : List TypeItem). behind hs (types_of g l)) is ∙ ap Some (append-nil hs)
