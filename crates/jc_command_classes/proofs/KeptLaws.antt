-- What is kept of class files grows by one class file at a time.
use Rattle.std.proofs.Common.{◌≡◌, inr, ℕ, zero, suc, ◌+◌, ◌<◌, ◌≤◌, Bool, true, false, not, ◌||◌, List, [], ◌∷◌, ◌++◌, length, take, get_or, map, filter, Result, Ok, Err, nat_eq, refl, sym, ◌∙◌, ap, subst, arith}
use Rattle.std.specs.List.{list_any}
use Rattle.std.specs.Cmp.{nat_eq_equiv}
use Rattle.std.proofs.lemmas.List.{append-nil, map-append, take_more, take_all, length-map, length-take}
use Rattle.std.proofs.lemmas.List.Elements.{filter-append}
use Rattle.jc_bytes.specs.FirstSeen.{first_seen, seen_behind}
use Rattle.jc_bytes.specs.declared.refusal.Refusal.{Refusal}
use Rattle.jc_bytes.proofs.FirstSeenLaws.{seen-append, seen_anew, any_first_seen}
use Rattle.jc_command_work.specs.declared.stop.Stop.{Stop}
use Rattle.jc_command_work.specs.Seen.{write_seen}
use Rattle.jc_command_work.specs.Step.{Word, Write, to_err}
use Rattle.jc_command_classes.specs.declared.kept.Kept.{Kept}
use Rattle.jc_command_classes.specs.declared.kept.Seen.{Seen}
use Rattle.jc_command_classes.specs.declared.kept.Seen.TheVariants as seens
use Rattle.jc_command_classes.specs.Kept.{KeepsRefused, unless_known, KeepsChanged, KeepsSeen, refused_lines, changes_of, first_of_each, IsKeptOf, KeepsAll, StopsFirst}
use Rattle.jc_command_classes.specs.Lines.{refused_line}

-- ---- one class file more

lines_more : {X : Type 0} (ps : List Word) (seen : List (Seen X)) (p : Word) (s : Seen X) → length ps ≡ length seen
    → refused_lines (ps ++ p ∷ []) (seen ++ s ∷ []) ≡ refused_lines ps seen ++ refused_lines (p ∷ []) (s ∷ [])
lines_more [] [] p s same = refl
lines_more [] (t ∷ seen) p s same = absurd (omega (arith, same))
lines_more (q ∷ ps) [] p s same = absurd (omega (arith, same))
lines_more (q ∷ ps) (seens.Refused why ∷ seen) p s same = ap (λ (ls : List (List ℕ)). refused_line q why ∷ ls) (lines_more ps seen p s (omega (arith, same)))
lines_more (q ∷ ps) (seens.Unchanged ∷ seen) p s same = lines_more ps seen p s (omega (arith, same))
lines_more (q ∷ ps) (seens.Changed id made ∷ seen) p s same = lines_more ps seen p s (omega (arith, same))

changes_more : {X : Type 0} (xs ys : List (Seen X)) → changes_of (xs ++ ys) ≡ changes_of xs ++ changes_of ys
changes_more [] ys = refl
changes_more (seens.Refused why ∷ xs) ys = changes_more xs ys
changes_more (seens.Unchanged ∷ xs) ys = changes_more xs ys
changes_more {X} (seens.Changed id made ∷ xs) ys = ap (λ (l : List (ℕ × X)). (id, made) ∷ l) (changes_more xs ys)

abbrev ids : {X : Type 0} → List (ℕ × X) → List ℕ
ids changes = map (λ c. c.0) changes

abbrev all_made : {X : Type 0} → List (ℕ × X) → List X
all_made changes = map (λ c. c.1) changes

pushed : {X : Type 0} (x c : ℕ × X) (firsts : List (ℕ × X)) (k t : Bool) → nat_eq x.0 c.0 ≡ t
    → (x ∷ filter (λ d. not (nat_eq x.0 d.0)) (unless_known k firsts c)) ≡ unless_known (t || k) (x ∷ filter (λ d. not (nat_eq x.0 d.0)) firsts) c
pushed x c firsts true true is = refl
pushed {X} x c firsts true false is = refl
pushed {X} x c firsts false true is =
    ap (λ (l : List (ℕ × X)). x ∷ l) (filter-append (λ d. not (nat_eq x.0 d.0)) firsts (c ∷ []) ∙ rw is (append-nil (filter (λ d. not (nat_eq x.0 d.0)) firsts)))
pushed {X} x c firsts false false is = ap (λ (l : List (ℕ × X)). x ∷ l) (filter-append (λ d. not (nat_eq x.0 d.0)) firsts (c ∷ []) ∙ rw is refl)

first_more : {X : Type 0} (xs : List (ℕ × X)) (c : ℕ × X) → first_of_each (xs ++ c ∷ []) ≡ unless_known (list_any (nat_eq c.0) (ids xs)) (first_of_each xs) c
first_more [] c = refl
first_more {X} (x ∷ xs) c =
    ap (λ (l : List (ℕ × X)). x ∷ filter (λ d. not (nat_eq x.0 d.0)) l) (first_more xs c)
    ∙ pushed x c (first_of_each xs) (list_any (nat_eq c.0) (ids xs)) (nat_eq c.0 x.0) (nat_eq_equiv.symm x.0 c.0)

ids_more : {X : Type 0} (xs : List (ℕ × X)) (c : ℕ × X)
    → first_seen (ids (xs ++ c ∷ [])) ≡ unless_known (list_any (nat_eq c.0) (first_seen (ids xs))) (first_seen (ids xs)) c.0
ids_more {X} xs c =
    ap first_seen (map-append (λ (d : ℕ × X). d.0) xs (c ∷ []))
    ∙ sym (seen_anew (ids xs ++ c.0 ∷ []))
    ∙ seen-append [] (ids xs) (c.0 ∷ [])
    ∙ ap (λ (l : List ℕ). seen_behind l (c.0 ∷ [])) (seen_anew (ids xs))

map_unless : {X : Type 0} (k : Bool) (xs : List (ℕ × X)) (c : ℕ × X) → all_made (unless_known k xs c) ≡ unless_known k (all_made xs) c.1
map_unless true xs c = refl
map_unless {X} false xs c = map-append (λ (d : ℕ × X). d.1) xs (c ∷ [])

module _ {X : Type 0} (paths : List Word) (seen : List (Seen X)) (path : Word) (old new : Kept X) (same : length paths ≡ length seen) (so_far : IsKeptOf paths seen old) where
  -- what is no changed class leaves the changes
  no_change : (s : Seen X) → changes_of (s ∷ []) ≡ [] → changes_of seen ≡ changes_of (seen ++ s ∷ [])
  no_change s none = sym (changes_more seen (s ∷ []) ∙ ap (λ (l : List (ℕ × X)). changes_of seen ++ l) none ∙ append-nil (changes_of seen))

  -- what isn't refused leaves the lines
  no_line : (s : Seen X) → refused_lines (path ∷ []) (s ∷ []) ≡ [] → refused_lines paths seen ≡ refused_lines (paths ++ path ∷ []) (seen ++ s ∷ [])
  no_line s none = sym (lines_more paths seen path s same ∙ ap (λ (l : List (List ℕ)). refused_lines paths seen ++ l) none ∙ append-nil (refused_lines paths seen))

  refused_on : (why : Refusal) → KeepsRefused path why old new → IsKeptOf (paths ++ path ∷ []) (seen ++ seens.Refused why ∷ []) new
  refused_on why keeps =
      let s : Seen X = seens.Refused why in
      record {
        lines =
            keeps.lines ∙ ap (λ (ws : List Write). ws ++ to_err (refused_line path why) ∷ []) so_far.lines
            ∙ sym (map-append to_err (refused_lines paths seen) (refused_line path why ∷ []))
            ∙ ap (map to_err) (sym (lines_more paths seen path s same));
        made = keeps.made ∙ so_far.made ∙ ap (λ (cs : List (ℕ × X)). all_made (first_of_each cs)) (no_change s refl);
        ids = keeps.ids ∙ so_far.ids ∙ ap (λ (cs : List (ℕ × X)). first_seen (ids cs)) (no_change s refl);
      }

  unchanged_on : new ≡ old → IsKeptOf (paths ++ path ∷ []) (seen ++ seens.Unchanged ∷ []) new
  unchanged_on stays =
      let s : Seen X = seens.Unchanged in
      record {
        lines = ap (λ (k : Kept X). map write_seen k.lines.items) stays ∙ so_far.lines ∙ ap (map to_err) (no_line s refl);
        made = ap (λ (k : Kept X). k.made.items) stays ∙ so_far.made ∙ ap (λ (cs : List (ℕ × X)). all_made (first_of_each cs)) (no_change s refl);
        ids = ap (λ (k : Kept X). k.ids.keys) stays ∙ so_far.ids ∙ ap (λ (cs : List (ℕ × X)). first_seen (ids cs)) (no_change s refl);
      }

  changed_on : (id : ℕ) (made : X) → KeepsChanged id made old new → IsKeptOf (paths ++ path ∷ []) (seen ++ seens.Changed id made ∷ []) new
  changed_on id made keeps =
      let s : Seen X = seens.Changed id made in
      let changes = changes_of seen in
      let c : ℕ × X = (id, made) in
      let more : changes_of (seen ++ s ∷ []) ≡ changes ++ c ∷ [] = changes_more seen (s ∷ []) in
      let known : list_any (nat_eq id) old.ids.keys ≡ list_any (nat_eq id) (first_seen (ids changes)) = ap (list_any (nat_eq id)) so_far.ids in
      record {
        lines = ap (map write_seen) keeps.lines ∙ so_far.lines ∙ ap (map to_err) (no_line s refl);
        made =
            keeps.made
            ∙ (λ i. unless_known (known i) (so_far.made i) made)
            ∙ ap (λ (k : Bool). unless_known k (all_made (first_of_each changes)) made) (any_first_seen (ids changes) id)
            ∙ sym (map_unless (list_any (nat_eq id) (ids changes)) (first_of_each changes) c)
            ∙ ap (λ (cs : List (ℕ × X)). all_made cs) (sym (first_more changes c))
            ∙ ap (λ (cs : List (ℕ × X)). all_made (first_of_each cs)) (sym more);
        ids = keeps.ids ∙ (λ i. unless_known (known i) (so_far.ids i) id) ∙ sym (ap (λ (cs : List (ℕ × X)). first_seen (ids cs)) more ∙ ids_more changes c);
      }

  kept_on : (s : Seen X) → KeepsSeen path s old new → IsKeptOf (paths ++ path ∷ []) (seen ++ s ∷ []) new
  kept_on (seens.Refused why) keeps = refused_on why keeps
  kept_on seens.Unchanged keeps = unchanged_on keeps
  kept_on (seens.Changed id made) keeps = changed_on id made keeps

-- ---- the class files so far

-- an item of a list, between those in front of it and those behind it
split_at : {Y : Type 0} (ys : List Y) (n : ℕ) (y : Y) → n < length ys → y ≡ get_or ys n y → (rest : List Y) × (ys ≡ take n ys ++ y ∷ rest)
split_at [] n y less is = absurd (omega (arith, less))
split_at {Y} (z ∷ ys) zero y less is = (ys, ap (λ (x : Y). x ∷ ys) (sym is))
split_at {Y} (z ∷ ys) (suc n) y less is =
    let rest = split_at ys n y (omega (arith, less)) is in
    (rest.0, ap (λ (l : List Y). z ∷ l) rest.1)

-- the answers so far don't stop the command, and this is kept of them
pub record Keeping {X : Type 0} (paths : List Word) (answers : List (Result (Seen X) Stop)) (n : ℕ) (kept : Kept X) : Type 0 where
  pub seen : List (Seen X)
  pub are : take n answers ≡ map Ok seen
  pub so_far : IsKeptOf (take n paths) seen kept

pub nothing_kept : {X : Type 0} (paths : List Word) (answers : List (Result (Seen X) Stop)) (kept : Kept X) → kept.lines.items ≡ [] → kept.made.items ≡ []
    → kept.ids.keys ≡ [] → Keeping paths answers 0 kept
nothing_kept paths answers kept lines made keys = record { seen = []; are = refl; so_far = record { lines = ap (map write_seen) lines; made = made; ids = keys } }

module _ {X : Type 0} (paths : List Word) (answers : List (Result (Seen X) Stop)) (n : ℕ) (old : Kept X)
    (same : length answers ≡ length paths) (within : n < length answers) (keeping : Keeping paths answers n old) where
  as_many : length (take n paths) ≡ length keeping.seen
  as_many =
      let many : length keeping.seen ≡ length (take n answers) = sym (ap length keeping.are ∙ length-map keeping.seen Ok) in
      omega (arith, many, length-take n answers, length-take n paths, same, within)

  pub kept_more : (answer : Result (Seen X) Stop) (s : Seen X) (path : Word) (new : Kept X) → answer ≡ get_or answers n answer → answer ≡ Ok s
      → path ≡ get_or paths n [] → KeepsSeen path s old new → Keeping paths answers (n + 1) new
  kept_more answer s path new at is path_is keeps =
      let more : take (n + 1) answers ≡ take n answers ++ answer ∷ [] =
      take_more answers n answer within ∙ ap (λ (a : Result (Seen X) Stop). take n answers ++ a ∷ []) (sym at) in
      let longer : take (n + 1) paths ≡ take n paths ++ path ∷ [] =
      take_more paths n [] (omega (arith, same, within)) ∙ ap (λ (p : Word). take n paths ++ p ∷ []) (sym path_is) in
      record {
        seen = keeping.seen ++ s ∷ [];
        are =
            more
            ∙ (λ i. keeping.are i ++ is i ∷ [])
            ∙ sym (map-append Ok keeping.seen (s ∷ []));
        so_far =
            subst (λ (ps : List Word). IsKeptOf ps (keeping.seen ++ s ∷ []) new) (sym longer)
            (kept_on (take n paths) keeping.seen path old new as_many keeping.so_far s keeps);
      }

  pub stops_here : (answer : Result (Seen X) Stop) (stop : Stop) → answer ≡ get_or answers n answer → answer ≡ Err stop → StopsFirst answers stop
  stops_here answer stop at is =
      let parts = split_at answers n answer within at in
      inr (keeping.seen, parts.0, parts.1 ∙ (λ i. keeping.are i ++ is i ∷ parts.0))

pub all_kept : {X : Type 0} (paths : List Word) (answers : List (Result (Seen X) Stop)) (n : ℕ) (kept : Kept X) → length answers ≡ length paths
    → length answers ≤ n → Keeping paths answers n kept → KeepsAll paths answers kept
all_kept {X} paths answers n kept same all keeping = (
  keeping.seen,
  sym (take_all n answers all) ∙ keeping.are,
  subst (λ (ps : List Word). IsKeptOf ps keeping.seen kept) (take_all n paths (omega (arith, all, same))) keeping.so_far,
)
