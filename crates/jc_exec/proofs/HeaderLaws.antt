-- The version of a header.
use Rattle.std.proofs.Common.{◌≡◌, ℕ, ◌+◌, ◌*◌, ◌<◌, ◌≤◌, Bool, false, not, List, [], ◌∷◌, ◌++◌, length, take, drop, get_or, bytes_eq, Some, refl, sym, ◌∙◌, ap, arith}
use Rattle.std.proofs.lemmas.Bool.{not-false}
use Rattle.std.proofs.lemmas.List.{take_at, take-append-drop, length-take}
use Rattle.std.proofs.lemmas.Slice.Eq.{bytes_eq-Decides}
use Rattle.jc_bytes.specs.Decoder.{IsBig, first, number_at}
use Rattle.jc_bytes.proofs.DecoderLaws.{bind_some, guard_some, first_takes, first_again, number_takes, number_again}
use Rattle.jc_exec.specs.Format.{header_text}
use Rattle.jc_exec.specs.Reading.{version_at}

pub version_takes : (left : List ℕ) (found : ℕ) (rest : List ℕ) → version_at left ≡ Some (found, rest) → (version : List ℕ) × (left ≡ 0x01 ∷ 0xc0 ∷ 0xc0 ∷ version ++ rest) × IsBig 2 version found
unfolding version_at
version_takes left found rest e =
    let magic = bind_some (first 3 (take 3) left) _ (found, rest) e in
    let same = guard_some (bytes_eq magic.0.0 (0x01 ∷ 0xc0 ∷ 0xc0 ∷ [])) (number_at 2 magic.0.1) (found, rest) magic.2 in
    let t = first_takes 3 (take 3) left magic.0.0 magic.0.1 magic.1 in
    let n = number_takes 2 magic.0.1 found rest same.1 in
    let text : t.text ≡ 0x01 ∷ 0xc0 ∷ 0xc0 ∷ [] = sym (take_at t.text magic.0.1 3 t.size) ∙ sym (ap (take 3) t.parts) ∙ t.value ∙ (bytes_eq-Decides magic.0.0 (0x01 ∷ 0xc0 ∷ 0xc0 ∷ [])).0 same.0 in
    (n.0, t.parts ∙ (λ i. text i ++ n.1 i), n.2)

pub version_again : (left version more : List ℕ) (found : ℕ) → left ≡ 0x01 ∷ 0xc0 ∷ 0xc0 ∷ version ++ more → IsBig 2 version found → version_at left ≡ Some (found, more)
unfolding version_at
version_again left version more found parts big =
    ap version_at parts ∙ rw (first_again 3 (take 3) (0x01 ∷ 0xc0 ∷ 0xc0 ∷ []) (version ++ more) (0x01 ∷ 0xc0 ∷ 0xc0 ∷ []) refl refl) (number_again 2 version more found big)

-- two bytes that spell the version are these
version_bytes : (version : List ℕ) → length version ≡ 2 → get_or version 0 0 < 256 → get_or version 1 0 < 256 → 256 * get_or version 0 0 + get_or version 1 0 ≡ 0x1007 → version ≡ 0x10 ∷ 0x07 ∷ []
version_bytes [] size a b value = absurd (omega (arith, size))
version_bytes (x ∷ []) size a b value = absurd (omega (arith, size))
version_bytes (x ∷ y ∷ []) size a b value =
    let p : x ≡ 0x10 = omega (arith, a, b, value) in
    let q : y ≡ 0x07 = omega (arith, a, b, value) in
    λ i. p i ∷ q i ∷ []
version_bytes (x ∷ y ∷ z ∷ version) size a b value = absurd (omega (arith, size))

-- ---- a header of this version

pub same_bytes : (b : Bool) (xs ys zs : List ℕ) → b ≡ not (bytes_eq xs ys) → b ≡ false → ys ≡ zs → xs ≡ zs
same_bytes b xs ys zs test apart is = (bytes_eq-Decides xs ys).0 (not-false (bytes_eq xs ys) (sym test ∙ apart)) ∙ is

pub header_read : (left behind magic version rest : List ℕ) → magic ≡ take 3 left → behind ≡ drop 3 left → version ≡ take 2 behind
    → rest ≡ drop 2 behind → 2 ≤ length behind → magic ≡ 0x01 ∷ 0xc0 ∷ 0xc0 ∷ []
    → get_or version 0 0 < 256 → get_or version 1 0 < 256 → 256 * get_or version 0 0 + get_or version 1 0 ≡ 0x1007 → left ≡ header_text ++ rest
header_read left behind magic version rest m b v r enough is high low value =
    let size : length version ≡ 2 = ap length v ∙ omega (arith, length-take 2 behind, enough) in
    let number : version ≡ 0x10 ∷ 0x07 ∷ [] = version_bytes version size high low value in
    let front : take 3 left ≡ 0x01 ∷ 0xc0 ∷ 0xc0 ∷ [] = sym m ∙ is in
    let back : drop 3 left ≡ 0x10 ∷ 0x07 ∷ rest = sym b ∙ sym (take-append-drop 2 behind) ∙ ap (λ (l : List ℕ). l ++ drop 2 behind) (sym v ∙ number) ∙ ap (λ (l : List ℕ). 0x10 ∷ 0x07 ∷ l) (sym r) in
    sym (take-append-drop 3 left) ∙ (λ i. front i ++ back i)
