-- Reading functions that agree with forms of bytes, field by field.
use Rattle.std.proofs.Common.{◌≡◌, ℕ, Bool, cond, List, [], ◌∷◌, ◌++◌, take, Option, Some, None, refl, sym, ◌∙◌, ap, append_assoc}
use Rattle.std.proofs.lemmas.List.{take_at}
use Rattle.std.proofs.lemmas.Option.{same_Some}
use Rattle.jc_bytes.specs.Decoder.{◌>>=◌, byte_at, number_at}
use Rattle.jc_bytes.proofs.DecoderLaws.{bind_some, guard_some, first_takes, first_again, number_takes, number_again, byte_takes, byte_again}
use Rattle.jc_bytes.proofs.OptionLaws.{some_none}
use Rattle.jc_insn.specs.Fields.{nothing, byte, piece, Then, only_if}
use Rattle.jc_insn.specs.Items.{number}
use Rattle.jc_insn.specs.Reading.{piece_at}

-- what is read is of the form, and what is of the form is read, whatever follows
pub record IsReadBy {X : Type 0} (F : List ℕ → X → Type 0) (read : List ℕ → Option (X × List ℕ)) : Type 0 where
  pub takes : (left : List ℕ) (x : X) (rest : List ℕ) → read left ≡ Some (x, rest) → (text : List ℕ) × (left ≡ text ++ rest) × F text x
  pub again : (text rest : List ℕ) (x : X) → F text x → read (text ++ rest) ≡ Some (x, rest)

pub reads_nothing : {X : Type 0} (x : X) → IsReadBy (nothing x) (λ left. Some (x, left))
reads_nothing {X} x = record {
  takes = λ left y rest e. let same = same_Some (x, left) (y, rest) e in ([], ap (λ (p : X × List ℕ). p.1) same, (refl, sym (ap (λ (p : X × List ℕ). p.0) same)));
  again = λ text rest y text_is. again text rest y text_is.0 text_is.1;
}
  where
    again : (text rest : List ℕ) (y : X) → text ≡ [] → y ≡ x → ◌≡◌ {A = Option (X × List ℕ)} (Some (x, text ++ rest)) (Some (y, rest))
    again text rest y none same = λ i. Some (sym same i, none i ++ rest)

pub reads_byte : IsReadBy byte byte_at
reads_byte = record {
  takes = λ left x rest e. (x ∷ [], byte_takes left x rest e, refl);
  again = λ text rest x is. ap (λ (l : List ℕ). byte_at (l ++ rest)) is ∙ byte_again x rest;
}

pub reads_number : (n : ℕ) → IsReadBy (number n) (number_at n)
reads_number n = record { takes = number_takes n; again = number_again n }

pub reads_piece : (n : ℕ) → IsReadBy (piece n) (piece_at n)
reads_piece n = record {
  takes = λ left x rest e. let t = first_takes n (take n) left x rest e in
      (t.text, t.parts, (t.size, sym (take_at t.text rest n t.size) ∙ sym (ap (take n) t.parts) ∙ t.value));
  again = λ text rest x is. first_again n (take n) text rest x is.0 (take_at text rest n is.0 ∙ is.1);
}

-- a form behind a field
pub reads_then : {X Y : Type 0} (F : List ℕ → X → Type 0) (G : X → List ℕ → Y → Type 0) (read : List ℕ → Option (X × List ℕ))
    (next : X → List ℕ → Option (Y × List ℕ))
    → IsReadBy F read → ((x : X) → IsReadBy (G x) (next x)) → IsReadBy (Then F G) (λ left. read left >>= λ p. next p.0 p.1)
reads_then {X} {Y} F G read next a b = record { takes = takes; again = again }
  where
    takes : (left : List ℕ) (y : Y) (rest : List ℕ) → (read left >>= λ p. next p.0 p.1) ≡ Some (y, rest)
        → (text : List ℕ) × (left ≡ text ++ rest) × Then F G text y
    takes left y rest e =
        let s = bind_some (read left) (λ p. next p.0 p.1) (y, rest) e in
        let front = a.takes left s.0.0 s.0.1 s.1 in
        let more = (b s.0.0).takes s.0.1 y rest s.2 in (
          front.0 ++ more.0,
          front.1 ∙ ap (λ (l : List ℕ). front.0 ++ l) more.1
              ∙ sym (append_assoc front.0 more.0 rest),
          record { value = s.0.0; front = front.0; rest = more.0; parts = refl; field = front.2; behind = more.2 },
        )

    again : (text rest : List ℕ) (y : Y) → Then F G text y → (read (text ++ rest) >>= λ p. next p.0 p.1) ≡ Some (y, rest)
    again text rest y t =
        ap (λ (l : List ℕ). read l >>= λ p. next p.0 p.1) (ap (λ (l : List ℕ). l ++ rest) t.parts ∙ append_assoc t.front t.rest rest)
        ∙ ap (λ (r : Option (X × List ℕ)). r >>= λ p. next p.0 p.1) (a.again t.front (t.rest ++ rest) t.value t.field)
        ∙ (b t.value).again t.rest rest y t.behind

-- a form that stands only where a test passes
pub reads_if : {X : Type 0} (test : Bool) (F : List ℕ → X → Type 0) (read : List ℕ → Option (X × List ℕ)) → IsReadBy F read
    → IsReadBy (only_if test F) (λ left. cond test (read left) None)
reads_if {X} test F read a = record {
  takes = λ left x rest e. let g = guard_some test (read left) (x, rest) e in let t = a.takes left x rest g.1 in (t.0, t.1, (g.0, t.2));
  again = λ text rest x is. ap (λ (b : Bool). cond b (read (text ++ rest)) None) is.0 ∙ a.again text rest x is.1;
}

-- nothing is of no form
pub reads_none : {X : Type 0} → IsReadBy {X = X} (λ text x. ⊥) (λ left. None)
reads_none = record { takes = λ left x rest e. absurd (some_none (sym e)); again = λ text rest x is. absurd is }
