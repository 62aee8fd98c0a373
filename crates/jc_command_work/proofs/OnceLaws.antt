-- Each path of a list where it stands first.
use Rattle.std.proofs.Common.{◌≡◌, ℕ, suc, ◌+◌, ◌<◌, length, drop, get_or, drop-cons, add-one, Bool, true, false, cond, ◌||◌, List, [], ◌∷◌, ◌++◌, String, string_bytes, refl, sym, ◌∙◌, ap, ap₂, subst, append_assoc, append-nil}
use Rattle.std.specs.List.{list_any}
use Rattle.std.specs.Str.{bytes_eq}
use Rattle.std.specs.String.{string_eq}
use Rattle.std.specs.declared.alloc.Global.{Global}
use Rattle.std.proofs.lemmas.List.{map-append}
use Rattle.indexmap.specs.IndexSet.{insert_key}
use Rattle.jc_bytes.proofs.TextEqualLaws.{turned}
use Rattle.jc_command_work.specs.Step.{Word}
use Rattle.jc_command_work.specs.Seen.{words_of}
use Rattle.jc_command_work.specs.Folders.{once}

-- the paths that were kept of those in front, where these are left
pub record Kept (all rest kept : List Word) : Type 0 where
  pub seen : List Word
  pub same : (w : Word) → list_any (λ p. bytes_eq p w) seen ≡ list_any (bytes_eq w) kept
  pub is : once [] all ≡ kept ++ once seen rest

pub kept_none : (all : List Word) → Kept all all []
kept_none all = record { seen = []; same = λ w. refl; is = refl }

pub kept_all : (all kept : List Word) → Kept all [] kept → kept ≡ once [] all
kept_all all kept so = sym (so.is ∙ append-nil kept)

any_more : (p : Word → Bool) (xs : List Word) (x : Word) → list_any p (xs ++ x ∷ []) ≡ (p x || list_any p xs)
any_more p [] x = refl
any_more p (y ∷ xs) x = ap (λ (t : Bool). p y || t) (any_more p xs x) ∙ swapped (p y) (p x) (list_any p xs)
  where
    swapped : (a b c : Bool) → (a || (b || c)) ≡ (b || (a || c))
    swapped true true c = refl
    swapped true false c = refl
    swapped false b c = refl

any_text : (x : String Global) (keys : List (String Global)) → list_any (string_eq x) keys ≡ list_any (bytes_eq (string_bytes x)) (words_of keys)
any_text x [] = refl
any_text x (k ∷ keys) = ap (λ (t : Bool). string_eq x k || t) (any_text x keys)

kept_word : (all rest kept : List Word) (w : Word) (b : Bool) → list_any (bytes_eq w) kept ≡ b → Kept all (w ∷ rest) kept → Kept all rest (cond b kept (kept ++ w ∷ []))
kept_word all rest kept w true old so = record {
  seen = so.seen;
  same = so.same;
  is = so.is ∙ ap (λ (t : Bool). kept ++ cond t (once so.seen rest) (w ∷ once (w ∷ so.seen) rest)) (so.same w ∙ old);
}
kept_word all rest kept w false new so = record {
  seen = w ∷ so.seen;
  same = λ v. ap₂ (λ (s t : Bool). s || t) (turned w v) (so.same v) ∙ sym (any_more (bytes_eq v) kept w);
  is = so.is ∙ ap (λ (t : Bool). kept ++ cond t (once so.seen rest) (w ∷ once (w ∷ so.seen) rest)) (so.same w ∙ new)
      ∙ sym (append_assoc kept (w ∷ []) (once (w ∷ so.seen) rest));
}

-- one more path is put among those that were kept, unless it is there
pub kept_on : (all rest : List Word) (keys more : List (String Global)) (x : String Global) → more ≡ insert_key string_eq keys x → Kept all (string_bytes x ∷ rest) (words_of keys)
    → Kept all rest (words_of more)
kept_on all rest keys more x is so = by (list_any (string_eq x) keys) refl
  where
    put : (b : Bool) → words_of (cond b keys (keys ++ x ∷ [])) ≡ cond b (words_of keys) (words_of keys ++ string_bytes x ∷ [])
    put true = refl
    put false = map-append string_bytes keys (x ∷ [])

    by : (b : Bool) → list_any (string_eq x) keys ≡ b → Kept all rest (words_of more)
    by b e =
        let words = ap words_of (is ∙ ap (λ (t : Bool). cond t keys (keys ++ x ∷ [])) e) ∙ put b in
        subst (Kept all rest) (sym words) (kept_word all rest (words_of keys) (string_bytes x) b (sym (any_text x keys) ∙ e) so)

pub kept_next : (paths keys more : List (String Global)) (n : ℕ) (x : String Global) → n < length paths → x ≡ get_or paths n x → more ≡ insert_key string_eq keys x
    → Kept (words_of paths) (words_of (drop n paths)) (words_of keys) → Kept (words_of paths) (words_of (drop (n + 1) paths)) (words_of more)
kept_next paths keys more n x within is put so =
    let next : words_of (drop n paths) ≡ string_bytes x ∷ words_of (drop (n + 1) paths) =
    ap words_of (drop-cons paths n x within) ∙ ap (λ (y : String Global). string_bytes y ∷ words_of (drop (suc n) paths)) (sym is)
    ∙ ap (λ (m : ℕ). string_bytes x ∷ words_of (drop m paths)) (sym (add-one n)) in
    kept_on (words_of paths) (words_of (drop (n + 1) paths)) keys more x put (subst (λ (l : List Word). Kept (words_of paths) l (words_of keys)) next so)
