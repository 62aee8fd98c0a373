-- Records that are written one after the other.
use Rattle.std.proofs.Common.{◌≡◌, ℕ, ◌+◌, ◌<◌, Bool, true, false, cond, List, [], ◌∷◌, ◌++◌, length, take, filter, get_or, refl, sym, ◌∙◌, ap, append_assoc}
use Rattle.std.specs.List.{flat_map}
use Rattle.std.proofs.lemmas.Grind.{flat_map-append}
use Rattle.std.proofs.lemmas.List.{append-nil, take_more}
use Rattle.jc_exec.specs.declared.hits.ClassHits.{ClassHits}
use Rattle.jc_exec.specs.Writing.{class_text, is_hit}

one_more : (cs : List ClassHits) (c : ClassHits) → filter is_hit (cs ++ c ∷ []) ≡ filter is_hit cs ++ cond (is_hit c) (c ∷ []) []
one_more [] c = refl
one_more (d ∷ cs) c = by (is_hit d) (one_more cs c)
  where
    by : (b : Bool) → filter is_hit (cs ++ c ∷ []) ≡ filter is_hit cs ++ cond (is_hit c) (c ∷ []) []
        → cond b (d ∷ filter is_hit (cs ++ c ∷ [])) (filter is_hit (cs ++ c ∷ [])) ≡ cond b (d ∷ filter is_hit cs) (filter is_hit cs) ++ cond (is_hit c) (c ∷ []) []
    by true rest = ap (λ (l : List ClassHits). d ∷ l) rest
    by false rest = rest

module _ (cs : List ClassHits) (k : ℕ) (c : ClassHits) (old out : List ℕ) (lt : k < length cs) (item : c ≡ get_or cs k c)
    (is : out ≡ old ++ flat_map class_text (filter is_hit (take k cs))) where
  next : filter is_hit (take (k + 1) cs) ≡ filter is_hit (take k cs) ++ cond (is_hit c) (c ∷ []) []
  next = ap (filter is_hit) (take_more cs k c lt ∙ ap (λ (d : ClassHits). take k cs ++ d ∷ []) (sym item)) ∙ one_more (take k cs) c

  -- the record has a hit, and was written
  pub hit_more : is_hit c ≡ true → out ++ class_text c ≡ old ++ flat_map class_text (filter is_hit (take (k + 1) cs))
  hit_more hit =
      let shown = filter is_hit (take k cs) in
      let more : filter is_hit (take (k + 1) cs) ≡ shown ++ c ∷ [] = next ∙ ap (λ (b : Bool). shown ++ cond b (c ∷ []) []) hit in
      ap (λ (l : List ℕ). l ++ class_text c) is
      ∙ append_assoc old (flat_map class_text shown) (class_text c)
      ∙ ap (λ (l : List ℕ). old ++ l) (ap (λ (l : List ℕ). flat_map class_text shown ++ l) (sym (append-nil (class_text c))) ∙ sym (flat_map-append class_text shown (c ∷ [])))
      ∙ ap (λ (l : List ClassHits). old ++ flat_map class_text l) (sym more)

  -- it has none, and was left out
  pub miss_more : is_hit c ≡ false → out ≡ old ++ flat_map class_text (filter is_hit (take (k + 1) cs))
  miss_more miss =
      let shown = filter is_hit (take k cs) in
      let more : filter is_hit (take (k + 1) cs) ≡ shown = next ∙ ap (λ (b : Bool). shown ++ cond b (c ∷ []) []) miss ∙ append-nil shown in
      is ∙ ap (λ (l : List ClassHits). old ++ flat_map class_text l) (sym more)
