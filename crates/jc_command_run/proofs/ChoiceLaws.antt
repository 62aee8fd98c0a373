-- One decision behind the other has one answer, where each has one.
use Rattle.std.proofs.Common.{◌≡◌, inl, inr, sym, ◌∙◌, ap, subst}
use Rattle.jc_command_work.specs.Part.{End, stops}
use Rattle.jc_command_work.specs.Answered.{Answer}
use Rattle.jc_command_run.specs.RunAnswers.{Chooses}

-- what is so is one thing, the end is one, and both are never so
pub record IsOneChoice {X : Type 0} (Is : X → Type 0) (Ends : End → Type 0) : Type 0 where
  pub one : (x y : X) → Is x → Is y → x ≡ y
  pub one_end : (e f : End) → Ends e → Ends f → e ≡ f
  pub apart : (x : X) (e : End) → Is x → Ends e → ⊥

pub one_choice : {X : Type 0} (Is : X → Type 0) (Ends : End → Type 0) (then : X → Answer → Type 0) → IsOneChoice Is Ends
    → ((x : X) (a b : Answer) → then x a → then x b → a ≡ b) → (a b : Answer) → Chooses Is Ends then a → Chooses Is Ends then b → a ≡ b
one_choice {X} Is Ends then choice one a b (inl (x, is, so)) (inl (y, is', so')) =
    one y a b (subst (λ (z : X). then z a) (choice.one x y is is') so) so'
one_choice Is Ends then choice one a b (inl (x, is, so)) (inr (e, ends, same)) = absurd (choice.apart x e is ends)
one_choice Is Ends then choice one a b (inr (e, ends, same)) (inl (x, is, so)) = absurd (choice.apart x e is ends)
one_choice Is Ends then choice one a b (inr (e, ends, same)) (inr (f, ends', same')) =
    same ∙ ap (λ (g : End). let x : Answer = stops g in x) (choice.one_end e f ends ends') ∙ sym same'
