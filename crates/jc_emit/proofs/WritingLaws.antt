-- Items that are put behind one another.
use Rattle.std.proofs.Common.{◌≡◌, ℕ, ◌+◌, List, [], ◌++◌, map, sym, ap, ◌∙◌, subst, add-one, append_assoc, append-nil}
use Rattle.std.proofs.lemmas.List.{map-append}
use Rattle.jc_bytes.specs.PlainLists.{pieces}
use Rattle.jc_emit.specs.Marks.{unplaced}
use Rattle.jc_emit.specs.Items.{Item, insn_of, at_of, own_of, extra_of}
use Rattle.jc_emit.specs.Writing.{Grows}
use Rattle.jc_emit.specs.Written.{Shows, integer_in}
use Rattle.jc_emit.specs.declared.written.Written.{Written}

join : {B : Type 0} (f : Item → B) (a b c : List B) (p q : List Item) → b ≡ a ++ map f p → c ≡ b ++ map f q → c ≡ a ++ map f (p ++ q)
join f a b c p q e d =
    d ∙ ap (λ l. l ++ map f q) e ∙ append_assoc a (map f p) (map f q) ∙ ap (λ l. a ++ l) (sym (map-append f p q))

pub grows_append : (integer : ℕ → ℕ) (v : ℕ) (a b c : Written) (p q : List Item) → Grows integer v a b p → Grows integer v b c q → Grows integer v a c (p ++ q)
grows_append integer v a b c p q g h = record {
  code = join (insn_of (unplaced integer) v) a.code.items b.code.items c.code.items p q g.code h.code;
  at = join at_of a.at.items b.at.items c.at.items p q g.at h.at;
  own = join own_of a.own.items b.own.items c.own.items p q g.own h.own;
  extra = join extra_of a.extra.items b.extra.items c.extra.items p q g.extra h.extra;
}

pub grows_none : (integer : ℕ → ℕ) (v : ℕ) (a : Written) → Grows integer v a a ([])
grows_none integer v a = record {
  code = sym (append-nil a.code.items);
  at = sym (append-nil a.at.items);
  own = sym (append-nil a.own.items);
  extra = sym (append-nil a.extra.items);
}

-- one more piece
pub grows_piece : (integer : ℕ → ℕ) (v : ℕ) (a b c : Written) (g : ℕ → List Item) (n : ℕ) → Grows integer v a b (pieces g n) → Grows integer v b c (g n) → Grows integer v a c (pieces g (n + 1))
grows_piece integer v a b c g n so_far more =
    subst (λ k. Grows integer v a c (pieces g k)) (sym (add-one n)) (grows_append integer v a b c (pieces g n) (g n) so_far more)

pub shows_more : (integer : ℕ → ℕ) (v : ℕ) (p q : List Item) (a b : Written) → Shows integer v p a → Grows integer v a b q → Shows integer v (p ++ q) b
shows_more integer v p q a b s g = record {
  code = join (insn_of (unplaced integer) v) ([]) a.code.items b.code.items p q s.code g.code;
  at = join at_of ([]) a.at.items b.at.items p q s.at g.at;
  own = join own_of ([]) a.own.items b.own.items p q s.own g.own;
  extra = join extra_of ([]) a.extra.items b.extra.items p q s.extra g.extra;
}

pub shows_piece : (integer : ℕ → ℕ) (v : ℕ) (p : List Item) (g : ℕ → List Item) (n : ℕ) (a b : Written) → Shows integer v (p ++ pieces g n) a → Grows integer v a b (g n)
    → Shows integer v (p ++ pieces g (n + 1)) b
shows_piece integer v p g n a b s h =
    let both : (p ++ pieces g n) ++ g n ≡ p ++ pieces g (n + 1) = append_assoc p (pieces g n) (g n) ∙ ap (λ k. p ++ pieces g k) (sym (add-one n)) in
    subst (λ l. Shows integer v l b) both (shows_more integer v (p ++ pieces g n) (g n) a b s h)

-- by the same local variable and the same places of Integers
pub grows_alike : (now now' : List ℕ) (v v' : ℕ) (a b : Written) (p : List Item) → now' ≡ now → v' ≡ v → Grows (integer_in now') v' a b p
    → Grows (integer_in now) v a b p
grows_alike now now' v v' a b p constants slot g =
    subst (λ k. Grows (integer_in now) k a b p) slot (subst (λ (l : List ℕ). Grows (integer_in l) v' a b p) constants g)
