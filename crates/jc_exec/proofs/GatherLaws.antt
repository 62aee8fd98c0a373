-- The blocks of a text, gathered one after the other.
use Rattle.std.proofs.Common.{◌≡◌, ◌≢◌, inl, inr, ℕ, ◌+◌, ◌<◌, ◌≤◌, List, [], ◌∷◌, ◌++◌, length, Option, Some, option_and_then, is_ok, if◌then◌else◌, Result, Ok, Err, refl, sym, ◌∙◌, ap, subst, arith, append_assoc, length-append}
use Rattle.std.specs.List.{AllByRecursion}
use Rattle.std.proofs.lemmas.List.{nil_from_length, append-nil}
use Rattle.jc_bytes.specs.declared.fail.Fail.{Fail}
use Rattle.jc_bytes.specs.declared.fail.Fail.TheVariants as fails
use Rattle.jc_bytes.specs.Reader.{Reading}
use Rattle.jc_exec.specs.declared.hits.ClassHits.{ClassHits}
use Rattle.jc_exec.specs.declared.session.Session.{Session}
use Rattle.jc_exec.specs.declared.refusal.ExecRefusal.{ExecRefusal}
use Rattle.jc_exec.specs.Adding.{Entries, Held, over, Gathers, Puts, Keeps, RefusesBlock, RefusesAll, store_of, store_with, with_added, Adds, StopsUnfit, StopsClash, IsStop}
use Rattle.jc_exec.specs.Answers.{why_of, Refuses, SaysOnly, RefusesRecord}
use Rattle.jc_exec.specs.Format.{Block, header, session, class, AreBlocks, Blocks, BeginsWithHeader}
use Rattle.jc_exec.specs.Front.{MayStandAt, Took, IsUnfit, ReadsFront, moved, reading_at}
use Rattle.jc_exec.specs.Refusing.{Refused, bad_exec, other_version, conflict, MayFollow, RefusedHere, FirstRefusal, blocks_of}
use Rattle.jc_exec.specs.Store.{Store, IsWritable, Keyed}
use Rattle.jc_exec.specs.Union.{IsUnion, ReadsOn, with_block, union_of}
use Rattle.jc_exec.proofs.ListLaws.{no_block, one_list, blocks_push}
use Rattle.jc_exec.proofs.MergingLaws.{union_blocks}
use Rattle.jc_exec.proofs.RefusingLaws.{one_reason, not_both}
use Rattle.jc_exec.proofs.StoreLaws.{keyed_apart}
use Rattle.jc_exec.proofs.StoringLaws.{own_union, union_append}
use Rattle.jc_exec.proofs.UnionLaws.{one_union}

-- ---- a block more

pub may_follow : (taken : List ℕ) (read : List Block) (b : Block) → Blocks taken read → MayStandAt (length taken) b → MayFollow read b
may_follow taken [] b blocks stands = subst (λ (x : Block). BeginsWithHeader (x ∷ [])) (sym (stands (ap length blocks.whole))) tt
may_follow taken (header ∷ read) b blocks stands = tt
may_follow taken (session s ∷ read) b blocks stands = absurd blocks.begins
may_follow taken (class c ∷ read) b blocks stands = absurd blocks.begins

pub may_stand : (taken : List ℕ) (read : List Block) (b : Block) → Blocks taken read → MayFollow read b → MayStandAt (length taken) b
may_stand taken [] header blocks follows = λ first. refl
may_stand taken [] (session s) blocks follows = absurd follows
may_stand taken [] (class c) blocks follows = absurd follows
may_stand taken (x ∷ read) b blocks follows = λ first. absurd (no_block x taken blocks.whole.0 blocks.whole.1 blocks.whole.3 blocks.whole.2 (nil_from_length taken first))

union_push : (s at t : Store) (read : List Block) (b : Block) → union_of s read ≡ Some at → with_block at b ≡ Some t → union_of s (read ++ b ∷ []) ≡ Some t
union_push s at t read b is step =
    union_append s read (b ∷ [])
    ∙ ap (λ (o : Option Store). option_and_then (λ (u : Store). union_of u (b ∷ [])) o) is
    ∙ ap (λ (o : Option Store). option_and_then (λ (u : Store). Some u) o) step

-- ---- what was gathered so far

-- the blocks that were read were put
pub record Progress (known : Entries) (offset : ℕ) (bytes : List ℕ) (old : Held) (reader : Reading) (new : Held) : Type 0 where
  pub taken : List ℕ
  pub parts : bytes ≡ taken ++ reader.left
  pub place : reader.place ≡ length taken
  pub adds : Adds known offset taken old new

pub begins_here : (known : Entries) (offset : ℕ) (bytes : List ℕ) (old : Held) (reader : Reading) → Keyed old.records
    → reader.left ≡ bytes → reader.place ≡ 0 → Progress known offset bytes old reader old
begins_here known offset bytes old reader keyed left place = record {
  taken = [];
  parts = sym left;
  place = place;
  adds = record { read = []; whole = refl; begins = λ first. tt; union = λ sessions. refl; writable = λ w. w; keyed = keyed };
}

begins_more : (taken : List ℕ) (read : List Block) (b : Block) (offset : ℕ) → AreBlocks taken read → (offset ≡ 0 → BeginsWithHeader read)
    → MayStandAt (offset + length taken) b → offset ≡ 0 → BeginsWithHeader (read ++ b ∷ [])
begins_more taken read b offset whole begins stands first =
    may_follow taken read b (record { begins = begins first; whole = whole }) (λ none. stands (omega (arith, first, none)))

pub goes_on : (known : Entries) (offset : ℕ) (bytes : List ℕ) (old new : Reading) (start before after : Held) (b : Block)
    → Progress known offset bytes start old before → Took (moved offset old) (moved offset new) b → Keeps known before after b
    → Progress known offset bytes start new after
goes_on known offset bytes old new start before after b p t k =
    let a = p.adds in
    record {
      taken = p.taken ++ t.front;
      parts = p.parts ∙ ap (λ (l : List ℕ). p.taken ++ l) t.parts ∙ sym (append_assoc p.taken t.front new.left);
      place = omega (arith, p.place, t.end, ap length t.parts, length-append t.front new.left, length-append p.taken t.front);
      adds = record {
        read = a.read ++ b ∷ [];
        whole = blocks_push p.taken a.read t.front b a.whole t.block;
        begins = begins_more p.taken a.read b offset a.whole a.begins (λ none. t.follows (omega (arith, p.place, none)));
        union = λ sessions. union_push (with_added sessions known start) (with_added sessions known before)
            (with_added sessions known after) a.read b (a.union sessions) (k.union sessions);
        writable = λ w. k.writable (a.writable w);
        keyed = k.keyed;
      };
    }

-- all was read
pub all_taken : (known : Entries) (offset : ℕ) (bytes : List ℕ) (reader : Reading) (start new : Held) → Progress known offset bytes start reader new
    → length bytes ≤ reader.place → Adds known offset bytes start new
all_taken known offset bytes reader start new p end =
    let none : reader.left ≡ [] = nil_from_length reader.left (omega (arith, end, p.place, ap length p.parts, length-append p.taken reader.left)) in
    subst (λ (l : List ℕ). Adds known offset l start new) (sym (p.parts ∙ ap (λ (l : List ℕ). p.taken ++ l) none ∙ append-nil p.taken)) p.adds

-- ---- what stops the reading

module _ (known : Entries) (offset : ℕ) (bytes : List ℕ) (old : Reading) (start at : Held) (p : Progress known offset bytes start old at) where
  not_nil : old.place < length bytes → old.left ≢ []
  not_nil goes_on = λ none. omega (arith, goes_on, p.place, ap length p.parts, length-append p.taken old.left, ap length none)

  -- the block in front was not read
  pub stops_unread : (new : Reading) (e : Fail ExecRefusal) → old.place < length bytes → ReadsFront (Err e) (moved offset old) new
      → IsStop known offset bytes start at e
  stops_unread new fails.Memory goes_on reads = tt
  stops_unread new (fails.Said why) goes_on reads = inl (record {
    taken = p.taken;
    left = old.left;
    parts = p.parts;
    adds = p.adds;
    some = not_nil goes_on;
    unfit = subst (λ (n : ℕ). IsUnfit (reading_at (offset + n) old.left) (why_of why)) p.place reads;
  })

  memory : (e : Fail ExecRefusal) (after : Held) → e ≡ fails.Memory → IsStop known offset bytes start after e
  memory e after is = subst (IsStop known offset bytes start after) (sym is) tt

  clashes : (new : Reading) (c : ClassHits) (e : Fail ExecRefusal) (after : Held) → Took (moved offset old) (moved offset new) (class c)
      → RefusesRecord e (over known at.records) c → IsStop known offset bytes start after e
  clashes new c fails.Memory after t why = tt
  clashes new c (fails.Said refusal) after t why = inr (record {
    taken = p.taken;
    front = t.front;
    more = new.left;
    parts = p.parts ∙ ap (λ (l : List ℕ). p.taken ++ l) t.parts;
    reached = at;
    adds = p.adds;
    hits = c;
    block = t.block;
    follows = λ none. t.follows (omega (arith, p.place, none));
    refused = why;
  })

  -- the block in front was read, and not kept
  pub stops_unkept : (new : Reading) (b : Block) (e : Fail ExecRefusal) (after : Held) → Took (moved offset old) (moved offset new) b
      → RefusesBlock e known at.records b → IsStop known offset bytes start after e
  stops_unkept new header e after t why = memory e after why
  stops_unkept new (session s) e after t why = memory e after why
  stops_unkept new (class c) e after t why = clashes new c e after t why

-- ---- blocks behind others, over a store

append_blocks : (a b : List ℕ) (xs ys : List Block) → AreBlocks a xs → AreBlocks b ys → AreBlocks (a ++ b) (xs ++ ys)
append_blocks a b [] ys none later = subst (λ (l : List ℕ). AreBlocks (l ++ b) ys) (sym none) later
append_blocks a b (x ∷ xs) ys first later =
    (first.0, first.1 ++ b, ap (λ (l : List ℕ). l ++ b) first.2 ∙ append_assoc first.0 first.1 b, first.3, append_blocks first.1 b xs ys first.4 later)

begins_behind : (read more : List Block) → BeginsWithHeader read → (read ≡ [] → BeginsWithHeader more) → BeginsWithHeader (read ++ more)
begins_behind [] more first rest = rest refl
begins_behind (header ∷ read) more first rest = tt
begins_behind (session s ∷ read) more first rest = first
begins_behind (class c ∷ read) more first rest = first

module _ (known : Entries) (offset : ℕ) (start : Held) (sessions : List Session) (before : Store) (done : List ℕ) (read : List Block)
    (blocks : Blocks done read) (size : length done ≡ offset) (union : IsUnion (blocks_of before ++ read) (with_added sessions known start)) where
  pub added_blocks : (bytes : List ℕ) (new : Held) (a : Adds known offset bytes start new) → Blocks (done ++ bytes) (read ++ a.read)
  added_blocks bytes new a = record {
    begins = begins_behind read a.read blocks.begins (λ none. a.begins (sym size ∙ ap length (subst (AreBlocks done) none blocks.whole)));
    whole = append_blocks done bytes read a.read blocks.whole a.whole;
  }

  pub added_union : (bytes : List ℕ) (new : Held) (a : Adds known offset bytes start new)
      → IsUnion (blocks_of before ++ (read ++ a.read)) (with_added sessions known new)
  added_union bytes new a = subst (λ (l : List Block). IsUnion l (with_added sessions known new)) (append_assoc (blocks_of before) read a.read)
      (union_blocks (blocks_of before ++ read) a.read (with_added sessions known start) (with_added sessions known new) union (a.union sessions))

  refused_here : (taken left : List ℕ) (new : Held) (a : Adds known offset taken start new) (why : Refused)
      → RefusedHere (read ++ a.read) (with_added sessions known new) (length (done ++ taken)) left why → FirstRefusal before (done ++ (taken ++ left)) why
  refused_here taken left new a why here = record {
    read = read ++ a.read;
    taken = done ++ taken;
    rest = left;
    store = with_added sessions known new;
    parts = sym (append_assoc done taken left);
    blocks = added_blocks taken new a;
    union = added_union taken new a;
    refused = here;
  }

  place : (taken : List ℕ) → length (done ++ taken) ≡ offset + length taken
  place taken = omega (arith, length-append done taken, size)

  unfit_here : (taken left : List ℕ) (new : Held) (a : Adds known offset taken start new) (why : Refused) → left ≢ []
      → IsUnfit (reading_at (offset + length taken) left) why
      → RefusedHere (read ++ a.read) (with_added sessions known new) (length (done ++ taken)) left why
  unfit_here taken left new a (bad_exec p) some unfit = (
    unfit.0 ∙ sym (place taken),
    record {
      some = some;
      none = λ b front more parts block follows. unfit.1 b front more parts block
          (λ first. may_stand (done ++ taken) (read ++ a.read) b (added_blocks taken new a) follows (place taken ∙ first));
      known = unfit.2;
    },
  )
  unfit_here taken left new a (other_version found) some unfit = unfit
  unfit_here taken left new a (conflict id first second m n) some unfit = absurd unfit

  clash_here : (bytes : List ℕ) (why : ExecRefusal) (s : StopsClash known offset bytes start why)
      → RefusedHere (read ++ s.adds.read) (with_added sessions known s.reached) (length (done ++ s.taken)) (s.front ++ s.more) (why_of why)
  clash_here bytes why s =
      let found = s.refused in
      subst (RefusedHere (read ++ s.adds.read) (with_added sessions known s.reached) (length (done ++ s.taken)) (s.front ++ s.more)) (sym found.2) (
        found.0,
        s.hits,
        record {
          front = s.front;
          more = s.more;
          parts = refl;
          block = s.block;
          follows = may_follow (done ++ s.taken) (read ++ s.adds.read) (class s.hits) (added_blocks s.taken s.reached s.adds)
              (λ first. s.follows (sym (place s.taken) ∙ first));
          holds = found.1.holds;
          same_id = found.1.same_id;
          differs = found.1.differs;
        },
        refl,
        refl,
        refl,
        refl,
        refl,
      )

  pub unfit_refused : (bytes : List ℕ) (new : Held) (why : ExecRefusal) → StopsUnfit known offset bytes start new why
      → FirstRefusal before (done ++ bytes) (why_of why)
  unfit_refused bytes new why s = subst (λ (l : List ℕ). FirstRefusal before (done ++ l) (why_of why)) (sym s.parts)
      (refused_here s.taken s.left new s.adds (why_of why) (unfit_here s.taken s.left new s.adds (why_of why) s.some s.unfit))

  pub clash_refused : (bytes : List ℕ) (why : ExecRefusal) → StopsClash known offset bytes start why
      → FirstRefusal before (done ++ bytes) (why_of why)
  clash_refused bytes why s = subst (λ (l : List ℕ). FirstRefusal before (done ++ l) (why_of why)) (sym s.parts)
      (refused_here s.taken (s.front ++ s.more) s.reached s.adds (why_of why) (clash_here bytes why s))

  pub stop_refused : (bytes : List ℕ) (new : Held) (e : Fail ExecRefusal) → IsStop known offset bytes start new e → Refuses e before (done ++ bytes)
  stop_refused bytes new fails.Memory stop = tt
  stop_refused bytes new (fails.Said why) (inl unfit) = unfit_refused bytes new why unfit
  stop_refused bytes new (fails.Said why) (inr clash) = clash_refused bytes why clash

-- ---- a whole file

-- nothing was gathered yet
pub nothing : (sessions : List Session) (known : Entries) (start : Held) → start.sessions ≡ [] → start.records ≡ []
    → store_of sessions known ≡ with_added sessions known start
nothing sessions known start none empty = ap (λ (ss : List Session). store_of ss known) (sym (append-nil sessions)) ∙ (λ i. store_with sessions known (sym none i) (sym empty i))

pub adds_gathers : (known : Entries) (bytes : List ℕ) (start new : Held) → start.sessions ≡ [] → start.records ≡ []
    → Adds known 0 bytes start new → Gathers known bytes new.sessions new.records
adds_gathers known bytes start new none empty a = record {
  read = a.read;
  blocks = record { begins = a.begins refl; whole = a.whole };
  union = λ sessions. subst (λ (s : Store). union_of s a.read ≡ Some (with_added sessions known new)) (sym (nothing sessions known start none empty)) (a.union sessions);
  writable = a.writable (subst (AllByRecursion IsWritable) (sym none) tt);
  keyed = a.keyed;
}

pub stops_file : (known : Entries) (bytes : List ℕ) (start new : Held) (e : Fail ExecRefusal) → Keyed known → start.sessions ≡ []
    → start.records ≡ [] → IsStop known 0 bytes start new e → RefusesAll known bytes e
stops_file known bytes start new e keyed none empty stop = λ sessions.
    let before = store_of sessions known in
    let same : before ≡ with_added sessions known start = nothing sessions known start none empty in
    stop_refused known 0 start sessions before [] [] (record { begins = tt; whole = refl }) refl
    (subst (λ (l : List Block). IsUnion l (with_added sessions known start)) (sym (append-nil (blocks_of before)))
    (subst (IsUnion (blocks_of before)) same (own_union before (keyed_apart known keyed)))) bytes new e stop

-- ---- a file, and a record, over a store

pub gathered_reads : (text : List ℕ) (ss more : List Session) (known fresh : Entries) → Gathers known text more fresh → ReadsOn text (store_of ss known) (store_with ss known more fresh)
gathered_reads text ss more known fresh g = λ blocks u. (g.read, g.blocks, union_blocks blocks g.read (store_of ss known) (store_with ss known more fresh) u (g.union ss))

pub gathered_writable : (ss more : List Session) → AllByRecursion IsWritable ss → AllByRecursion IsWritable more → AllByRecursion IsWritable (ss ++ more)
gathered_writable [] more a b = b
gathered_writable (s ∷ ss) more a b = (a.0, gathered_writable ss more a.1 b)

-- the blocks have no other union with the store
pub gathered_only : (text : List ℕ) (ss more : List Session) (known fresh : Entries) → Keyed known → Gathers known text more fresh
    → (read : List Block) (s : Store) → Blocks text read → IsUnion (blocks_of (store_of ss known) ++ read) s → store_with ss known more fresh ≡ s
gathered_only text ss more known fresh keyed g read s blocks u =
    let before = blocks_of (store_of ss known) in
    let own : IsUnion (before ++ g.read) (store_with ss known more fresh) = union_blocks before g.read (store_of ss known)
    (store_with ss known more fresh) (own_union (store_of ss known) (keyed_apart known keyed)) (g.union ss) in
    one_union (before ++ read) (store_with ss known more fresh) s (subst (λ (l : List Block). IsUnion (before ++ l) (store_with ss known more fresh)) (one_list text g.read read g.blocks blocks) own) u

pub gathered_not_refused : (text : List ℕ) (ss more : List Session) (known fresh : Entries) → Keyed known → Gathers known text more fresh
    → (why : Refused) → FirstRefusal (store_of ss known) text why → ⊥
gathered_not_refused text ss more known fresh keyed g why refused =
    let before = blocks_of (store_of ss known) in
    not_both (store_of ss known) text why (
      g.read,
      store_with ss known more fresh,
      g.blocks,
      union_blocks before g.read (store_of ss known) (store_with ss known more fresh)
          (own_union (store_of ss known) (keyed_apart known keyed)) (g.union ss),
    ) refused

-- a text whose blocks have a union is refused for want of memory alone
pub refused_not_taken : (e : Fail ExecRefusal) (before : Store) (text : List ℕ) → Refuses e before text → (read : List Block) (s : Store)
    → Blocks text read → IsUnion (blocks_of before ++ read) s → e ≡ fails.Memory
refused_not_taken fails.Memory before text why read s blocks u = refl
refused_not_taken (fails.Said refusal) before text why read s blocks u = absurd (not_both before text (why_of refusal) (read, s, blocks, u) why)

-- any other is refused for its one reason
pub refused_for : (e : Fail ExecRefusal) (before : Store) (text : List ℕ) → Refuses e before text → (why : Refused) → FirstRefusal before text why → SaysOnly why e
refused_for fails.Memory before text refuses why first = tt
refused_for (fails.Said refusal) before text refuses why first = one_reason before text (why_of refusal) why refuses first

pub put_adds : (ss : List Session) (es later : Entries) (r : ClassHits) → Puts es later r → (blocks : List Block) → IsUnion blocks (store_of ss es)
    → IsUnion (blocks ++ class r ∷ []) (store_of ss later)
put_adds ss es later r p blocks u =
    let one : union_of (store_of ss es) (class r ∷ []) ≡ Some (store_of ss later) = rw p.merged refl in
    union_blocks blocks (class r ∷ []) (store_of ss es) (store_of ss later) u one

-- what was put behind a list that had room for it
pub put_behind : {X E : Type 0} (r : Result (Unit {0}) E) (done : Unit {0}) (new old more : List X) → new ≡ (if is_ok r then old ++ more else old) → r ≡ Ok done → new ≡ old ++ more
put_behind (Ok u) done new old more is ok = is
put_behind (Err e) done new old more is ok = absurd cc
