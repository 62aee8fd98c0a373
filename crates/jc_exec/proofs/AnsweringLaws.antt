-- Over a store with one record of each id, each text has a union or a block that is refused first.
use Rattle.std.proofs.Common.{◌≡◌, ◌≢◌, ◌⊎◌, inl, inr, ℕ, zero, suc, ◌<◌, ◌≤◌, Bool, true, false, List, [], ◌∷◌, ◌++◌, length, Contains, Option, Some, None, option_map, nat_eq, refl, sym, ◌∙◌, ap, subst, arith, append_assoc}
use Rattle.std.proofs.lemmas.Bool.{eqb-true, false≢true}
use Rattle.std.proofs.lemmas.List.{append-nil}
use Rattle.jc_bytes.proofs.OptionLaws.{some_none}
use Rattle.jc_exec.specs.declared.hits.ClassHits.{ClassHits}
use Rattle.jc_exec.specs.Format.{Block, header, session, class, IsBlock, Blocks}
use Rattle.jc_exec.specs.Store.{Store}
use Rattle.jc_exec.specs.Union.{Agrees, IsUnion, agree, with_record, with_block}
use Rattle.jc_exec.specs.Refusing.{Refused, bad_exec, other_version, conflict, blocks_of, MayFollow, RefusedHere, IsTaken, IsRefused, OneOfEachId}
use Rattle.jc_exec.proofs.BlockInFrontLaws.{Decided, HasBlock, other_header_decided, block_decided, shorter}
use Rattle.jc_exec.proofs.ListLaws.{one_front, blocks_push}
use Rattle.jc_exec.proofs.MergingLaws.{agrees_agree, with_first, union_block}
use Rattle.jc_exec.proofs.StoringLaws.{own_union}

-- ---- a block that may follow

follows_decided : (read : List Block) (b : Block) → Decided (MayFollow read b)
follows_decided [] header = inl tt
follows_decided [] (session s) = inr (λ h. h)
follows_decided [] (class c) = inr (λ h. h)
follows_decided (header ∷ read) b = inl tt
follows_decided (session s ∷ read) b = inr (λ h. h)
follows_decided (class c ∷ read) b = inr (λ h. h)

-- ---- a record that is not merged

-- a record of the id is there, and doesn't agree
abbrev Clashes : List ClassHits → ClassHits → Type 0
Clashes cs r = (c : ClassHits) × Contains cs c × (c.id ≡ r.id) × (Agrees c r → ⊥)

clashes : (cs : List ClassHits) (r : ClassHits) → with_record cs r ≡ None → Clashes cs r
clashes [] r none = absurd (some_none none)
clashes (c ∷ cs) r none = by (nat_eq c.id r.id) (agree c r) (with_record cs r) refl refl none (λ later. clashes cs r later) refl
  where
    by : (a b : Bool) (rest : Option (List ClassHits)) → nat_eq c.id r.id ≡ a → agree c r ≡ b
        → with_first c r cs a b rest ≡ None → (with_record cs r ≡ None → Clashes cs r) → with_record cs r ≡ rest → Clashes (c ∷ cs) r
    by true true rest id agrees none later is = absurd (some_none none)
    by true false rest id agrees none later is = (c, (0, omega arith, refl), eqb-true c.id r.id id, λ a. false≢true (sym agrees ∙ agrees_agree c r (record { name = sym a.name; count = sym a.count })))
    by false b (Some es) id agrees none later is = absurd (some_none none)
    by false b None id agrees none later is = let d = later is in (d.0, (suc d.1.0, omega (arith, d.1.1), d.1.2), d.2, d.3)

-- ---- block by block

-- these blocks stand in front and have a union with the store before
record Reached (before : Store) (text taken rest : List ℕ) (read : List Block) (store : Store) : Type 0 where
  pub parts : text ≡ taken ++ rest
  pub blocks : Blocks taken read
  pub union : IsUnion (blocks_of before ++ read) store

abbrev Answered : Store → List ℕ → Type 0
Answered before text = IsTaken before text ⊎ IsRefused before text

refused_here : (before : Store) (text taken rest : List ℕ) (read : List Block) (store : Store) → Reached before text taken rest read store
    → (why : Refused) → RefusedHere read store (length taken) rest why → Answered before text
refused_here before text taken rest read store r why here =
    inr (why, record { read = read; taken = taken; rest = rest; store = store; parts = r.parts; blocks = r.blocks; union = r.union; refused = here })

-- no block that may follow stands in front
unfit_here : (before : Store) (text taken rest : List ℕ) (read : List Block) (store : Store) → Reached before text taken rest read store → rest ≢ []
    → ((h : HasBlock rest) → MayFollow read h.block → ⊥) → Answered before text
unfit_here before text taken rest read store r some none = elim (other_header_decided rest) [
  | inl h ↦ refused_here before text taken rest read store r (other_version h.0) h.1
  | inr known ↦ refused_here before text taken rest read store r (bad_exec (length taken)) (
    refl,
    record {
      some = some;
      none = λ b front more parts is follows. none (record { block = b; front = front; more = more; parts = parts; is = is }) follows;
      known = known;
    },
  )
]

-- one block more is reached, or the text has its answer
record Next (before : Store) (text rest : List ℕ) : Type 0 where
  pub taken : List ℕ
  pub later : List ℕ
  pub read : List Block
  pub store : Store
  pub reached : Reached before text taken later read store
  pub less : length later < length rest

next_block : (before : Store) (text taken rest : List ℕ) (read : List Block) (store t : Store) → Reached before text taken rest read store
    → (h : HasBlock rest) → MayFollow read h.block → with_block store h.block ≡ Some t → Next before text rest
next_block before text taken rest read store t r h follows merged = record {
  taken = taken ++ h.front;
  later = h.more;
  read = read ++ h.block ∷ [];
  store = t;
  reached = record {
    parts = r.parts ∙ ap (λ (l : List ℕ). taken ++ l) h.parts ∙ sym (append_assoc taken h.front h.more);
    blocks = record { begins = follows; whole = blocks_push taken read h.front h.block r.blocks.whole h.is };
    union = subst (λ (l : List Block). IsUnion l t) (append_assoc (blocks_of before) read (h.block ∷ [])) (union_block (blocks_of before ++ read) h.block store t r.union merged);
  };
  less = shorter h.block rest h.front h.more h.is h.parts;
}

record_none : (o : Option (List ClassHits)) (store : Store) → option_map (λ (cs : List ClassHits). record store { classes = cs }) o ≡ None → o ≡ None
record_none None store e = refl
record_none (Some cs) store e = absurd (some_none e)

-- a block that may follow is refused for a conflict alone
conflict_here : (before : Store) (text taken rest : List ℕ) (read : List Block) (store : Store) → Reached before text taken rest read store
    → (h : HasBlock rest) → MayFollow read h.block → with_block store h.block ≡ None → Answered before text
conflict_here before text taken rest read store r h follows none = by h.block h.is follows none
  where
    by : (b : Block) → IsBlock h.front b → MayFollow read b → with_block store b ≡ None → Answered before text
    by header block follows none = absurd (some_none none)
    by (session s) block follows none = absurd (some_none none)
    by (class c) block follows none =
        let d = clashes store.classes c (record_none (with_record store.classes c) store none) in
        refused_here before text taken rest read store r (conflict c.id d.0.name c.name (length d.0.bits) (length c.bits)) (
          d.0,
          c,
          record { front = h.front; more = h.more; parts = h.parts; block = block; follows = follows; holds = d.1; same_id = d.2; differs = d.3 },
          refl,
          refl,
          refl,
          refl,
          refl,
        )

step : (before : Store) (text taken rest : List ℕ) (read : List Block) (store : Store) → Reached before text taken rest read store → rest ≢ []
    → Answered before text ⊎ Next before text rest
step before text taken rest read store r some = elim (block_decided rest) [
  | inr none ↦ inl (unfit_here before text taken rest read store r some (λ h follows. none h.block h.front h.more h.parts h.is))
  | inl h ↦ elim (follows_decided read h.block) [
    | inr other ↦ inl (unfit_here before text taken rest read store r some (λ g follows.
        other (subst (MayFollow read) (one_front g.block h.block rest g.front g.more h.front h.more g.is h.is g.parts h.parts).0 follows)))
    | inl follows ↦ by h follows (with_block store h.block) refl
  ]
]
  where
    by : (h : HasBlock rest) → MayFollow read h.block → (o : Option Store) → with_block store h.block ≡ o → Answered before text ⊎ Next before text rest
    by h follows (Some t) merged = inr (next_block before text taken rest read store t r h follows merged)
    by h follows None none = inl (conflict_here before text taken rest read store r h follows none)

not_nil : (x : ℕ) (l : List ℕ) → x ∷ l ≢ []
not_nil x l = λ e. cc

answered_from : (fuel : ℕ) (before : Store) (text taken rest : List ℕ) (read : List Block) (store : Store) → Reached before text taken rest read store
    → length rest ≤ fuel → Answered before text
answered_from fuel before text taken [] read store r short = inl (read, store, subst (λ (l : List ℕ). Blocks l read) (sym (r.parts ∙ append-nil taken)) r.blocks, r.union)
answered_from zero before text taken (x ∷ rest) read store r short = absurd (omega (arith, short))
answered_from (suc fuel) before text taken (x ∷ rest) read store r short = elim (step before text taken (x ∷ rest) read store r (not_nil x rest)) [
  | inl answered ↦ answered
  | inr n ↦ answered_from fuel before text n.taken n.later n.read n.store n.reached (omega (arith, short, n.less))
]

pub answered : (before : Store) (text : List ℕ) → OneOfEachId before.classes → IsTaken before text ⊎ IsRefused before text
answered before text one = answered_from (length text) before text [] text [] before
    (record { parts = refl; blocks = record { begins = tt; whole = refl }; union = subst (λ (l : List Block). IsUnion l before) (sym (append-nil (blocks_of before))) (own_union before one) })
    (omega arith)
