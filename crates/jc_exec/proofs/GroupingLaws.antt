-- Groups of texts are merged, and then their results, as all texts are.
use Rattle.std.proofs.Common.{◌≡◌, true, ℕ, List, [], ◌∷◌, ◌++◌, map, filter, refl, sym, ◌∙◌, ap, subst, append_assoc, get_or}
use Rattle.std.specs.List.{AllByRecursion, flat_map}
use Rattle.std.proofs.lemmas.List.{map-append}
use Rattle.std.proofs.lemmas.List.Elements.{filter-append, recursion_from_All, Contains-append_right, Contains-get_or}
use Rattle.jc_bytes.specs.ByteLists.{AreBytes}
use Rattle.jc_bytes.specs.FirstSeen.{first_seen}
use Rattle.jc_bytes.proofs.EachLaws.{all_behind}
use Rattle.jc_exec.specs.declared.hits.ClassHits.{ClassHits}
use Rattle.jc_exec.specs.declared.session.Session.{Session}
use Rattle.jc_exec.specs.Format.{Block, header, session, class, header_text}
use Rattle.jc_exec.specs.Groups.{BlocksOfAll, IsUnionOf, texts_of_all, AreResults, MergesInGroups}
use Rattle.jc_exec.specs.Refusing.{blocks_of}
use Rattle.jc_exec.specs.Store.{Store}
use Rattle.jc_exec.specs.Union.{sessions_of, records_of, ids_of, IsMerged, IsUnion}
use Rattle.jc_exec.specs.Writing.{session_text, class_text, by_dump, is_dumped_at, is_hit, exec_text, written}
use Rattle.jc_exec.proofs.CarryingLaws.{Carries, carries_none, carries_both, union_carries, union_has_hits, carried_consistent, later_merged, later_in_earlier, earlier_in_later, seen_alike}
use Rattle.jc_exec.proofs.FittingLaws.{union_fits}
use Rattle.jc_exec.proofs.ListLaws.{one_list}
use Rattle.jc_exec.proofs.MergingLaws.{Consistent, front_consistent, union_consistent, union_distinct, union_exists}
use Rattle.jc_exec.proofs.SessionLaws.{SameTimes, sessions_by_dump, only_by_dump}
use Rattle.jc_exec.proofs.UnionLaws.{sessions-append, records-append, HasRecord, seen_has_record, same_records, one_union}
use Rattle.jc_exec.proofs.WritingLaws.{written_blocks, written_union}

-- ---- lists

all_in_front : {X : Type 0} (P : X → Type 0) (xs ys : List X) → AllByRecursion P (xs ++ ys) → AllByRecursion P xs
all_in_front P [] ys all = tt
all_in_front P (x ∷ xs) ys all = (all.0, all_in_front P xs ys all.1)

abbrev AllHit : List ClassHits → Type 0
AllHit rs = AllByRecursion (λ r. is_hit r ≡ true) rs

back_consistent : (rs ss : List ClassHits) → Consistent (rs ++ ss) → Consistent ss
back_consistent rs ss same = λ x y there_x there_y id. same x y (Contains-append_right rs ss x there_x) (Contains-append_right rs ss y there_y) id

-- ---- the blocks of a store

records_of_classes : (cs : List ClassHits) → records_of (map class cs) ≡ cs
records_of_classes [] = refl
records_of_classes (c ∷ cs) = ap (λ (l : List ClassHits). c ∷ l) (records_of_classes cs)

records_behind_sessions : (ss : List Session) (bs : List Block) → records_of (map session ss ++ bs) ≡ records_of bs
records_behind_sessions [] bs = refl
records_behind_sessions (s ∷ ss) bs = records_behind_sessions ss bs

records_of_store : (s : Store) → records_of (header ∷ blocks_of s) ≡ s.classes
records_of_store s = records_behind_sessions s.sessions (map class s.classes) ∙ records_of_classes s.classes

-- ---- groups

-- the blocks of the results say what those of the texts do
record Grouped (groups : List (List (List ℕ))) (read : List Block) : Type 0 where
  pub results : List (List ℕ)
  pub each : AreResults groups results
  pub again : List Block
  pub blocks : BlocksOfAll results again
  pub carries : Carries (records_of read) (records_of again)
  pub times : SameTimes (sessions_of again) (sessions_of read)
  pub seen : AllHit (records_of read) → first_seen (ids_of (records_of again)) ≡ first_seen (ids_of (records_of read))

grouped_none : Grouped [] []
grouped_none = record { results = []; each = refl; again = []; blocks = refl; carries = carries_none; times = λ time. refl; seen = λ all. refl }

-- what one group says again
record Again (read : List Block) (s : Store) (again : List Block) : Type 0 where
  pub carries : Carries (records_of read) (records_of again)
  pub times : SameTimes (sessions_of again) (sessions_of read)
  pub seen : AllHit (records_of read) → first_seen (ids_of (records_of again)) ≡ first_seen (ids_of (records_of read))

one_group : (read : List Block) (s : Store) → IsUnion read s → Again read s (header ∷ blocks_of (written s))
one_group read s u =
    let own = written_union s (union_distinct read s u) in
    record {
      carries = subst (Carries (records_of read)) (sym (records_of_store (written s))) (union_carries read s u);
      times = λ time. ap (filter (is_dumped_at time)) (sym own.sessions) ∙ (sessions_by_dump s.sessions).stable time ∙ ap (filter (is_dumped_at time)) u.sessions;
      seen = λ all. sym own.ids ∙ ap ids_of (union_has_hits read s u all) ∙ u.ids;
    }

both_times : (bs ds us vs : List Block) → SameTimes (sessions_of bs) (sessions_of ds) → SameTimes (sessions_of us) (sessions_of vs)
    → SameTimes (sessions_of (bs ++ us)) (sessions_of (ds ++ vs))
both_times bs ds us vs first rest = λ time.
    ap (filter (is_dumped_at time)) (sessions-append bs us) ∙ filter-append (is_dumped_at time) (sessions_of bs) (sessions_of us)
    ∙ ap (λ (l : List Session). l ++ filter (is_dumped_at time) (sessions_of us)) (first time)
    ∙ ap (λ (l : List Session). filter (is_dumped_at time) (sessions_of ds) ++ l) (rest time)
    ∙ sym (filter-append (is_dumped_at time) (sessions_of ds) (sessions_of vs)) ∙ sym (ap (filter (is_dumped_at time)) (sessions-append ds vs))

ids_of_both : (bs ds : List Block) → ids_of (records_of (bs ++ ds)) ≡ ids_of (records_of bs) ++ ids_of (records_of ds)
ids_of_both bs ds = ap ids_of (records-append bs ds) ∙ map-append (λ (c : ClassHits). c.id) (records_of bs) (records_of ds)

-- ids are first seen in one order
abbrev SeenAlike : List Block → List Block → Type 0
SeenAlike bs ds = first_seen (ids_of (records_of bs)) ≡ first_seen (ids_of (records_of ds))

both_seen : (bs ds us vs : List Block) → SeenAlike bs ds → SeenAlike us vs → SeenAlike (bs ++ us) (ds ++ vs)
both_seen bs ds us vs first rest =
    ap first_seen (ids_of_both bs us)
    ∙ seen_alike (ids_of (records_of bs)) (ids_of (records_of ds)) (ids_of (records_of us)) (ids_of (records_of vs)) first rest
    ∙ sym (ap first_seen (ids_of_both ds vs))

-- a group in front of others
group_more : (g : List (List ℕ)) (gs : List (List (List ℕ))) (front rest : List Block) (s : Store) → AllByRecursion AreBytes g → BlocksOfAll g front → IsUnion front s
    → Grouped gs rest → Grouped (g ∷ gs) (front ++ rest)
group_more g gs front rest s are blocks u more =
    let own = header ∷ blocks_of (written s) in
    let one = one_group front s u in
    record {
      results = exec_text s ∷ more.results;
      each = (s, more.results, refl, record { read = front; blocks = blocks; union = u }, more.each);
      again = own ++ more.again;
      blocks = (own, more.again, refl, written_blocks s (union_fits g front s are blocks u), more.blocks);
      carries = subst (Carries (records_of (front ++ rest))) (sym (records-append own more.again))
          (subst (λ (l : List ClassHits). Carries l (records_of own ++ records_of more.again)) (sym (records-append front rest))
          (carries_both (records_of front) (records_of own) (records_of rest) (records_of more.again) one.carries more.carries));
      times = both_times own front more.again rest one.times more.times;
      seen = λ all.
          let parts = subst AllHit (records-append front rest) all in
          both_seen own front more.again rest (one.seen (all_in_front (λ r. is_hit r ≡ true) (records_of front) (records_of rest) parts))
          (more.seen (all_behind (λ r. is_hit r ≡ true) (records_of front) (records_of rest) parts));
    }

-- the blocks of two lists of texts
record InTwo (front back : List (List ℕ)) (read : List Block) : Type 0 where
  pub first : List Block
  pub rest : List Block
  pub parts : read ≡ first ++ rest
  pub of_first : BlocksOfAll front first
  pub of_rest : BlocksOfAll back rest

in_two : (front back : List (List ℕ)) (read : List Block) → BlocksOfAll (front ++ back) read → InTwo front back read
in_two [] back read blocks = record { first = []; rest = read; parts = refl; of_first = refl; of_rest = blocks }
in_two (t ∷ front) back read (bs, more, e, is, blocks) =
    let two = in_two front back more blocks in
    record {
      first = bs ++ two.first;
      rest = two.rest;
      parts = e ∙ ap (λ (l : List Block). bs ++ l) two.parts ∙ sym (append_assoc bs two.first two.rest);
      of_first = (bs, two.first, refl, is, two.of_first);
      of_rest = two.of_rest;
    }

grouped : (groups : List (List (List ℕ))) (read : List Block) → AllByRecursion AreBytes (texts_of_all groups) → BlocksOfAll (texts_of_all groups) read
    → Consistent (records_of read) → Grouped groups read
grouped [] read are e same = subst (Grouped []) (sym e) grouped_none
grouped (g ∷ gs) read are blocks same =
    let two = in_two g (texts_of_all gs) read blocks in
    let parts = subst Consistent (ap records_of two.parts ∙ records-append two.first two.rest) same in
    let s = union_exists two.first (front_consistent (records_of two.first) (records_of two.rest) parts) in
    let more = grouped gs two.rest (all_behind AreBytes g (texts_of_all gs) are) two.of_rest (back_consistent (records_of two.first) (records_of two.rest) parts) in
    subst (Grouped (g ∷ gs)) (sym two.parts) (group_more g gs two.first two.rest s.0 (all_in_front AreBytes g (texts_of_all gs) are) two.of_first s.1 more)

-- ---- the union of the results

same_sessions : (s t : Store) → SameTimes t.sessions s.sessions → by_dump t.sessions ≡ by_dump s.sessions
same_sessions s t times =
    let own = sessions_by_dump t.sessions in
    only_by_dump s.sessions (by_dump t.sessions) (record { sorted = own.sorted; stable = λ time. own.stable time ∙ times time })

-- where the ids are seen in one order
same_classes : (bs ds : List Block) (s t : Store) → Carries (records_of bs) (records_of ds) → IsUnion bs s → IsUnion ds t
    → first_seen (ids_of (records_of ds)) ≡ first_seen (ids_of (records_of bs)) → t.classes ≡ s.classes
same_classes bs ds s t carries u v seen =
    let rs = records_of bs in
    let ids : ids_of t.classes ≡ first_seen (ids_of rs) = v.ids ∙ seen in
    let merged : AllByRecursion (IsMerged rs) t.classes = recursion_from_All (IsMerged rs) t.classes (λ k d lt.
    (later_merged rs ds t (get_or t.classes k d) carries (union_consistent bs s u) v (Contains-get_or t.classes k d lt)).0) in
    same_records rs t.classes s.classes (ids ∙ sym u.ids) (subst (AllByRecursion (HasRecord rs)) (sym ids) (seen_has_record rs)) merged u.merged

same_text : (s t : Store) → by_dump t.sessions ≡ by_dump s.sessions → t.classes ≡ s.classes → exec_text t ≡ exec_text s
same_text s t sessions classes =
    ap (λ (l : List Session). header_text ++ (flat_map session_text l ++ flat_map class_text (filter is_hit t.classes))) sessions
    ∙ ap (λ (l : List ClassHits). header_text ++ (flat_map session_text (by_dump s.sessions) ++ flat_map class_text (filter is_hit l))) classes

pub merges_in_groups : (groups : List (List (List ℕ))) (whole : Store) → AllByRecursion AreBytes (texts_of_all groups)
    → IsUnionOf (texts_of_all groups) whole → MergesInGroups groups whole
merges_in_groups groups whole are is =
    let same = union_consistent is.read whole is.union in
    let g = grouped groups is.read are is.blocks same in
    let t = union_exists g.again (carried_consistent (records_of is.read) (records_of g.again) g.carries same) in
    let sessions : by_dump t.0.sessions ≡ by_dump whole.sessions = same_sessions whole t.0
    (λ time. ap (filter (is_dumped_at time)) t.1.sessions ∙ g.times time ∙ sym (ap (filter (is_dumped_at time)) is.union.sessions)) in
    record {
      results = g.results;
      each = g.each;
      store = t.0;
      merged = record { read = g.again; blocks = g.blocks; union = t.1 };
      sessions = sessions;
      hits = λ c hit. (
        λ there. later_in_earlier is.read g.again whole t.0 c g.carries same is.union t.1 there,
        λ there. earlier_in_later is.read g.again whole t.0 c g.carries same is.union t.1 hit there,
      );
      text = λ all. same_text whole t.0 sessions (same_classes is.read g.again whole t.0 g.carries is.union t.1 (g.seen (all is.read is.blocks)));
    }

-- ---- one union of all texts

one_list_of_all : (texts : List (List ℕ)) (bs ds : List Block) → BlocksOfAll texts bs → BlocksOfAll texts ds → bs ≡ ds
one_list_of_all [] bs ds a b = a ∙ sym b
one_list_of_all (t ∷ ts) bs ds (first, rest, e, is, more) (front, back, f, own, behind) =
    let head = one_list t first front is own in
    let tail = one_list_of_all ts rest back more behind in
    e ∙ ap (λ (l : List Block). l ++ rest) head ∙ ap (λ (l : List Block). front ++ l) tail ∙ sym f

pub one_union_of_all : (texts : List (List ℕ)) (s t : Store) → IsUnionOf texts s → IsUnionOf texts t → s ≡ t
one_union_of_all texts s t a b =
    one_union b.read s t (subst (λ (l : List Block). IsUnion l s) (one_list_of_all texts a.read b.read a.blocks b.blocks) a.union) b.union

pub one_list_of_results : (groups : List (List (List ℕ))) (a b : List (List ℕ)) → AreResults groups a → AreResults groups b → a ≡ b
one_list_of_results [] a b e f = e ∙ sym f
one_list_of_results (g ∷ gs) a b (s, rest, e, is, more) (t, later, f, own, behind) =
    let head = one_union_of_all g s t is own in
    let tail = one_list_of_results gs rest later more behind in
    e ∙ ap (λ (u : Store). exec_text u ∷ rest) head ∙ ap (λ (l : List (List ℕ)). exec_text t ∷ l) tail ∙ sym f
