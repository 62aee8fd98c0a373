-- A Code attribute is read exactly where the form spells one.
use Rattle.std.proofs.Common.{◌≡◌, ◌≤◌, ◌⊎◌, inl, inr, ⊎_elim, ℕ, ◌<◌, List, [], ◌++◌, length, Bool, false, leb, Err, sym, ◌∙◌, ap, subst, arith}
use Rattle.std.proofs.lemmas.List.{append-nil, nil_from_length}
use Rattle.std.proofs.lemmas.Bool.{false≢true, leb-true, le-leb}
use Rattle.jc_bytes.specs.Decoder.{SameEnd}
use Rattle.jc_bytes.specs.Counted.{counted_at}
use Rattle.jc_bytes.specs.Grammar.{Grammar, Agrees}
use Rattle.jc_bytes.specs.Parsing.{Parsed, Good, Parses}
use Rattle.jc_bytes.specs.Reader.{Reading}
use Rattle.jc_bytes.specs.declared.fail.Fail.TheVariants as fails
use Rattle.jc_bytes.specs.declared.refusal.Refusal.{Refusal}
use Rattle.jc_bytes.proofs.DecidingLaws.{Decides}
use Rattle.jc_bytes.proofs.CountedLaws.{agrees_number, agrees_piece, agrees_counted}
use Rattle.jc_bytes.proofs.GrammarLaws.{agrees_nothing, agrees_followed, good_is, one_value, whole_or_fails, never_both}
use Rattle.jc_pool.specs.Pool.{PoolValue}
use Rattle.jc_class.proofs.PartLaws.{agrees_attributes}
use Rattle.jc_body.specs.declared.items.CodeItems.{CodeItems}
use Rattle.jc_body.specs.CodeForm.{row, code_form, line_entry, line_table, var_entry, var_table, IsCodeText}
use Rattle.jc_body.specs.CodeReading.{row_at, code_at, line_at, var_at}
use Rattle.jc_body.proofs.DecidedLaws.{Decided, both_or_not, within_or_not}
use Rattle.jc_body.proofs.ItemLaws.{row_agrees, line_agrees, var_agrees}

-- the reader stands in front of the bytes
abbrev pub Begins : List ℕ → Reading → Type 0
Begins bytes old = record { left : old.left ≡ bytes; place : old.place ≡ 0 }

-- ---- each form and what reads it

pub code_agrees : (pool : PoolValue) → Agrees (code_form pool) (code_at pool)
unfolding code_form code_at
code_agrees pool =
    agrees_followed _ _ _ _ (agrees_number 2) (λ max_stack.
    agrees_followed _ _ _ _ (agrees_number 2) (λ max_locals.
    agrees_followed _ _ _ _ (agrees_number 4) (λ size.
    agrees_followed _ _ _ _ (agrees_piece size) (λ code.
    agrees_followed _ _ _ _ (agrees_counted row row_at row_agrees) (λ rows.
    agrees_followed _ _ _ _ (agrees_attributes pool) (λ attributes.
    agrees_nothing (record { max_stack = max_stack; max_locals = max_locals; code = code; rows = rows; attributes = attributes })))))))

pub lines_agree : Agrees line_table (counted_at line_at)
unfolding line_table
lines_agree = agrees_counted line_entry line_at line_agrees

pub vars_agree : Agrees var_table (counted_at var_at)
unfolding var_table
vars_agree = agrees_counted var_entry var_at var_agrees

-- ---- whole texts

module _ {X : Type 0} (g : Grammar X) (read : List ℕ → Parsed X) (a : Agrees g read) where
  -- a text stands for one value, or for none
  pub whole_or_none : (bytes : List ℕ) → ((x : X) × g.Text bytes x) ⊎ ((x : X) → g.Text bytes x → ⊥)
  whole_or_none bytes = ⊎_elim (λ text. inl text) (λ bad. inr (λ x text. never_both g read a bytes x bad.0 text bad.1)) (whole_or_fails g read a bytes)

  -- what is read up to the end
  pub read_whole : (bytes : List ℕ) (old new : Reading) (x : X) → Begins bytes old → SameEnd old new → read old.left ≡ Good x new.left → new.place ≡ length bytes → g.Text bytes x
  read_whole bytes old new x begins end is whole =
      let t = a.good old.left x new.left is in
      let none : new.left ≡ [] = nil_from_length new.left (omega (arith, begins.place, end, whole, ap length begins.left)) in
      subst (λ (l : List ℕ). g.Text l x) (sym (append-nil t.0) ∙ ap (λ (l : List ℕ). t.0 ++ l) (sym none) ∙ sym t.1 ∙ begins.left) t.2

  -- what is read and leaves bytes
  pub read_part : (bytes : List ℕ) (old new : Reading) (x : X) → Begins bytes old → SameEnd old new → read old.left ≡ Good x new.left → (new.place ≡ length bytes → ⊥) → (y : X) → g.Text bytes y → ⊥
  read_part bytes old new x begins end is part y text = part (omega (arith, begins.place, end, ap length begins.left, ap length none))
    where
      none : new.left ≡ []
      none = sym (good_is y x [] new.left (sym (a.again bytes [] y text) ∙ ap read (append-nil bytes ∙ sym begins.left) ∙ is)).1

  -- what is refused
  pub read_refused : (bytes : List ℕ) (old new : Reading) (refusal : Refusal) → Begins bytes old
      → Parses (λ (x : X). x) (Err (fails.Said refusal)) old new (read old.left) → (y : X) → g.Text bytes y → ⊥
  read_refused bytes old new refusal begins is y text = never_both g read a bytes y is.0 text (inl (a.bad bytes is.0 (ap read (sym begins.left) ∙ is.1)))

-- ---- the size of the code

abbrev pub Fitting : ℕ → Type 0
Fitting n = (1 ≤ n) × (n ≤ 65535)

fits_or_not : (n : ℕ) → Decided (Fitting n)
fits_or_not n = both_or_not (1 ≤ n) (n ≤ 65535) (within_or_not 1 n) (within_or_not n 65535)

-- the two tests of the size, one behind the other
pub some_code : (test : Bool) (size n : ℕ) → size ≡ n → 1 ≤ size → test ≡ leb size 65535 → Decides test (Fitting n)
some_code test size n same some is = record {
  to = λ h. (omega (arith, some, same), omega (arith, leb-true size 65535 (sym is ∙ h), same));
  back = λ fits. is ∙ le-leb size 65535 (omega (arith, same, fits.1));
}

pub no_code : (test : Bool) (size n : ℕ) → size ≡ n → size < 1 → test ≡ leb 1 size → Decides test (Fitting n)
no_code test size n same none is = record {
  to = λ h. absurd (omega (arith, none, leb-true 1 size (sym is ∙ h)));
  back = λ fits. absurd (omega (arith, none, same, fits.0));
}

pub unfit : (test : Bool) (n : ℕ) → Decides test (Fitting n) → test ≡ false → Fitting n → ⊥
unfit test n d not fits = false≢true (sym not ∙ d.back fits)

pub sized : (pool : PoolValue) (bytes : List ℕ) (items : CodeItems) → (code_form pool).Text bytes items → Fitting (length items.code) → IsCodeText pool bytes items
sized pool bytes items text fits = record { text = text; some = fits.0; few = fits.1 }

pub unsized : (pool : PoolValue) (bytes : List ℕ) (items : CodeItems) → (code_form pool).Text bytes items → (Fitting (length items.code) → ⊥) → (found : CodeItems) → IsCodeText pool bytes found → ⊥
unsized pool bytes items text not found is =
    let same = one_value (code_form pool) (code_at pool) (code_agrees pool) bytes found items is.text text in
    not (subst (λ (i : CodeItems). Fitting (length i.code)) same (is.some, is.few))

-- ---- one reading of a Code attribute, or none

pub one_code_text : (pool : PoolValue) (bytes : List ℕ) (x y : CodeItems) → IsCodeText pool bytes x → IsCodeText pool bytes y → x ≡ y
one_code_text pool bytes x y p q = one_value (code_form pool) (code_at pool) (code_agrees pool) bytes x y p.text q.text

pub code_text_or_none : (pool : PoolValue) (bytes : List ℕ) → ((items : CodeItems) × IsCodeText pool bytes items) ⊎ ((items : CodeItems) → IsCodeText pool bytes items → ⊥)
code_text_or_none pool bytes = ⊎_elim
    (λ text. ⊎_elim (λ fits. inl (text.0, sized pool bytes text.0 text.1 fits)) (λ not. inr (unsized pool bytes text.0 text.1 not)) (fits_or_not (length text.0.code)))
    (λ none. inr (λ items is. none items is.text))
    (whole_or_none (code_form pool) (code_at pool) (code_agrees pool) bytes)
