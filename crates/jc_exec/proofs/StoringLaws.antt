-- A store with one record of each id is the union of its sessions and its records.
use Rattle.std.proofs.Common.{◌≡◌, ℕ, Bool, true, false, cond, List, [], ◌∷◌, ◌++◌, map, filter, Option, Some, None, option_and_then, refl, sym, ◌∙◌, ap, subst, append_assoc}
use Rattle.std.proofs.lemmas.List.{append-nil}
use Rattle.jc_exec.specs.declared.hits.ClassHits.{ClassHits}
use Rattle.jc_exec.specs.declared.session.Session.{Session}
use Rattle.jc_exec.specs.Format.{Block, session, class}
use Rattle.jc_exec.specs.Store.{Store, IsNew}
use Rattle.jc_exec.specs.Union.{IsUnion, with_block, union_of}
use Rattle.jc_exec.specs.Refusing.{blocks_of, OneOfEachId}
use Rattle.jc_exec.proofs.StoreLaws.{new_parts}
use Rattle.jc_exec.proofs.UnionLaws.{union_none, union_class}
use Rattle.jc_exec.proofs.MergingLaws.{union_session, merging_makes_union, union_is_merged}

-- what stands behind others is new to them
new_behind : (before : List ClassHits) (c : ClassHits) (cs : List ClassHits) → OneOfEachId (before ++ c ∷ cs) → IsNew c.id before
new_behind [] c cs one = tt
new_behind (d ∷ before) c cs one = ((λ same. (new_parts d.id before (c ∷ cs) one.0).1.0 (sym same)), new_behind before c cs one.1)

sessions_union : (bs : List Block) (s : Store) (more : List Session) → IsUnion bs s
    → IsUnion (bs ++ map session more) (record { sessions = s.sessions ++ more; classes = s.classes })
sessions_union bs s [] u = both (sym (append-nil bs)) (sym (append-nil s.sessions))
  where
    both : {ds : List Block} {ss : List Session} → bs ≡ ds → s.sessions ≡ ss → IsUnion ds (record { sessions = ss; classes = s.classes })
    both {ss = ss} p q = subst (λ (l : List Block). IsUnion l (record { sessions = ss; classes = s.classes })) p
        (subst (λ (l : List Session). IsUnion bs (record { sessions = l; classes = s.classes })) q u)
sessions_union bs s (x ∷ more) u =
    subst (λ (l : List Block). IsUnion l (record { sessions = s.sessions ++ x ∷ more; classes = s.classes })) (append_assoc bs (session x ∷ []) (map session more))
    (subst (λ (l : List Session). IsUnion ((bs ++ session x ∷ []) ++ map session more) (record { sessions = l; classes = s.classes })) (append_assoc s.sessions (x ∷ []) more)
    (sessions_union (bs ++ session x ∷ []) (record { sessions = s.sessions ++ x ∷ []; classes = s.classes }) more (union_session bs s x u)))

classes_union : (bs : List Block) (s : Store) (cs : List ClassHits) → IsUnion bs s → OneOfEachId (s.classes ++ cs)
    → IsUnion (bs ++ map class cs) (record { sessions = s.sessions; classes = s.classes ++ cs })
classes_union bs s [] u one = both (sym (append-nil bs)) (sym (append-nil s.classes))
  where
    both : {ds : List Block} {cs : List ClassHits} → bs ≡ ds → s.classes ≡ cs → IsUnion ds (record { sessions = s.sessions; classes = cs })
    both {cs = cs} p q = subst (λ (l : List Block). IsUnion l (record { sessions = s.sessions; classes = cs })) p
        (subst (λ (l : List ClassHits). IsUnion bs (record { sessions = s.sessions; classes = l })) q u)
classes_union bs s (c ∷ cs) u one =
    subst (λ (l : List Block). IsUnion l (record { sessions = s.sessions; classes = s.classes ++ c ∷ cs })) (append_assoc bs (class c ∷ []) (map class cs))
    (subst (λ (l : List ClassHits). IsUnion ((bs ++ class c ∷ []) ++ map class cs) (record { sessions = s.sessions; classes = l })) (append_assoc s.classes (c ∷ []) cs)
    (classes_union (bs ++ class c ∷ []) (record { sessions = s.sessions; classes = s.classes ++ c ∷ [] }) cs
    (union_class bs s c u (new_behind s.classes c cs one)) (subst OneOfEachId (sym (append_assoc s.classes (c ∷ []) cs)) one)))

pub own_union : (s : Store) → OneOfEachId s.classes → IsUnion (blocks_of s) s
own_union s one = classes_union (map session s.sessions) (record { sessions = s.sessions; classes = [] }) s.classes
    (sessions_union [] (record { sessions = []; classes = [] }) s.sessions union_none) one

-- ---- blocks behind those that made the store

pub union_append : (s : Store) (bs more : List Block) → union_of s (bs ++ more) ≡ option_and_then (λ t. union_of t more) (union_of s bs)
union_append s [] more = refl
union_append s (b ∷ bs) more = by (with_block s b) (λ t. union_append t bs more)
  where
    by : (o : Option Store) → ((t : Store) → union_of t (bs ++ more) ≡ option_and_then (λ u. union_of u more) (union_of t bs))
        → option_and_then (λ t. union_of t (bs ++ more)) o ≡ option_and_then (λ u. union_of u more) (option_and_then (λ t. union_of t bs) o)
    by None rest = refl
    by (Some t) rest = rest t

union_behind : (bs more : List Block) (s : Store) → IsUnion bs s → union_of (record { sessions = []; classes = [] }) (bs ++ more) ≡ union_of s more
union_behind bs more s u = union_append (record { sessions = []; classes = [] }) bs more
    ∙ ap (λ (o : Option Store). option_and_then (λ t. union_of t more) o) (union_is_merged bs s u)

-- two lists of blocks with one union have one union with what stands behind them
pub union_over : (bs ds more : List Block) (s t : Store) → IsUnion bs s → IsUnion ds s → IsUnion (bs ++ more) t → IsUnion (ds ++ more) t
union_over bs ds more s t u v w = merging_makes_union (ds ++ more) t (union_behind ds more s v ∙ sym (union_behind bs more s u) ∙ union_is_merged (bs ++ more) t w)

-- ---- some of the records

new_filter : (id : ℕ) (p : ClassHits → Bool) (cs : List ClassHits) → IsNew id cs → IsNew id (filter p cs)
new_filter id p [] new = tt
new_filter id p (c ∷ cs) new = by (p c) (new_filter id p cs new.1)
  where
    by : (b : Bool) → IsNew id (filter p cs) → IsNew id (cond b (c ∷ filter p cs) (filter p cs))
    by true rest = (new.0, rest)
    by false rest = rest

pub one_filter : (p : ClassHits → Bool) (cs : List ClassHits) → OneOfEachId cs → OneOfEachId (filter p cs)
one_filter p [] one = tt
one_filter p (c ∷ cs) one = by (p c) (one_filter p cs one.1)
  where
    by : (b : Bool) → OneOfEachId (filter p cs) → OneOfEachId (cond b (c ∷ filter p cs) (filter p cs))
    by true rest = (new_filter c.id p cs one.0, rest)
    by false rest = rest
