-- What a feed keeps, as it begins, goes on and ends.
use Rattle.std.proofs.Common.{◌≡◌, ◌≢◌, ℕ, ◌+◌, ◌<◌, ◌≤◌, ◌==◌, Bool, true, false, List, [], ◌++◌, length, eqb-true, refl, sym, ◌∙◌, ap, subst, arith, append_assoc, length-append}
use Rattle.std.proofs.lemmas.Bool.{false≢true}
use Rattle.std.proofs.lemmas.List.{nil_from_length, append-nil}
use Rattle.jc_bytes.specs.declared.fail.Fail.{Fail}
use Rattle.jc_bytes.specs.declared.fail.Fail.TheVariants as fails
use Rattle.jc_exec.specs.declared.refusal.ExecRefusal.{ExecRefusal}
use Rattle.jc_exec.specs.declared.waiting.State.{State}
use Rattle.jc_exec.specs.declared.waiting.State.TheVariants as states
use Rattle.jc_exec.specs.declared.waiting.Waiting.{Waiting}
use Rattle.jc_exec.specs.Adding.{Held, held_store}
use Rattle.jc_exec.specs.Answers.{why_of, Refuses}
use Rattle.jc_exec.specs.Feeding.{Feed, Kept, waiting, refused, Waits, Feeds, StandsTo, Finished, StandBehindBlocks, IsSaid, IsSound, GoesOn, feed_of, kept_of, rest_of, most_block}
use Rattle.jc_exec.specs.Format.{Block, Blocks}
use Rattle.jc_exec.specs.Refusing.{Refused, bad_exec, blocks_of, FirstRefusal, IsTaken}
use Rattle.jc_exec.specs.Store.{Store, Keyed}
use Rattle.jc_exec.specs.Union.{IsUnion, ReadsOn}
use Rattle.jc_exec.proofs.FeedLaws.{none_in_nothing}
use Rattle.jc_exec.proofs.ListLaws.{one_list}
use Rattle.jc_exec.proofs.MergingLaws.{union_distinct}
use Rattle.jc_exec.proofs.RefusingLaws.{not_both}
use Rattle.jc_exec.proofs.StoreLaws.{keyed_apart}
use Rattle.jc_exec.proofs.StoringLaws.{own_union, union_over}
use Rattle.jc_exec.proofs.UnionLaws.{one_union}

-- what is kept, where the state is this
pub seen : {T : Type 0} (held : T → Held) (fed : ℕ) (state is : State T) → state ≡ is
    → (before : Store) (bytes : List ℕ) → Feeds (feed_of held fed state) before bytes → Feeds (feed_of held fed is) before bytes
seen {T} held fed state is same before bytes f = subst (λ (s : State T). Feeds (feed_of held fed s) before bytes) same f

-- a feed that is seen as another
pub seen_as : (f g : Feed) → f ≡ g → (before : Store) (bytes : List ℕ) → Feeds g before bytes → Feeds f before bytes
seen_as f g same before bytes = subst (λ (h : Feed). Feeds h before bytes) (sym same)

-- ---- a feed of nothing

own_blocks : (s : Store) → IsUnion (blocks_of s) s → IsUnion (blocks_of s ++ []) s
own_blocks s u = subst (λ (l : List Block). IsUnion l s) (sym (append-nil (blocks_of s))) u

pub begins : (held : Held) → Keyed held.records → Feeds (record { length = 0; kept = waiting (held_store held) [] }) (held_store held) []
begins held keyed = record {
  size = refl;
  stands = record {
    read = [];
    taken = [];
    parts = refl;
    blocks = record { begins = tt; whole = refl };
    union = own_blocks (held_store held) (own_union (held_store held) (keyed_apart held.records keyed));
    unfinished = none_in_nothing;
  };
}

-- ---- a piece more

pub goes_on : {T : Type 0} (held : T → Held) (fed offset : ℕ) (w : Waiting T) (piece : List ℕ) (later : State T) → offset + length w.rest.items ≡ fed
    → GoesOn held w offset piece later
    → (before : Store) (bytes : List ℕ) → Feeds (feed_of held fed (states.Waiting w)) before bytes
    → Feeds (feed_of held (fed + length piece) later) before (bytes ++ piece)
goes_on held fed offset w piece later place goes before bytes f = record {
  size = omega (arith, f.size, length-append bytes piece);
  stands = goes before bytes f.stands (place ∙ f.size);
}

pub stays_refused : (fed : ℕ) (why : ExecRefusal) (piece : List ℕ) (before : Store) (bytes : List ℕ)
    → Feeds (record { length = fed; kept = refused why }) before bytes → Feeds (record { length = fed + length piece; kept = refused why }) before (bytes ++ piece)
stays_refused fed why piece before bytes f = record {
  size = omega (arith, f.size, length-append bytes piece);
  stands = λ more. subst (λ (l : List ℕ). FirstRefusal before l (why_of why)) (sym (append_assoc bytes piece more)) (f.stands (piece ++ more));
}

-- ---- the bytes behind the last whole block

pub rest_behind : (before : Store) (bytes : List ℕ) (store : Store) (rest : List ℕ) → Waits before bytes store rest → StandBehindBlocks bytes (length rest)
rest_behind before bytes store rest w = record {
  read = w.read;
  taken = w.taken;
  rest = rest;
  parts = w.parts;
  blocks = w.blocks;
  unfinished = w.unfinished.none;
  size = refl;
}

-- what is refused whatever follows is not taken
pub refused_not_taken : (why : ExecRefusal) (before : Store) (bytes more : List ℕ)
    → ((l : List ℕ) → FirstRefusal before (bytes ++ l) (why_of why)) → IsTaken before (bytes ++ more) → ⊥
refused_not_taken why before bytes more lasts taken = not_both before (bytes ++ more) (why_of why) taken (lasts more)

-- ---- whether bytes are kept

pub none_left : {X : Type 0} (b : Bool) (n : ℕ) (rest : List X) → n ≡ length rest → b ≡ (n == 0) → b ≡ true → rest ≡ []
none_left b n rest size is empty = nil_from_length rest (sym size ∙ eqb-true n 0 (sym is ∙ empty))

pub some_left : (b : Bool) (n : ℕ) (rest : List ℕ) → n ≡ length rest → b ≡ (n == 0) → b ≡ false → rest ≢ []
some_left b n rest size is some = λ none. false≢true (sym some ∙ is ∙ ap (λ (k : ℕ). k == 0) (size ∙ ap length none))

-- ---- the end

pub finishes : (before : Store) (bytes : List ℕ) (store : Store) (rest : List ℕ) → rest ≡ [] → Waits before bytes store rest → Finished before bytes store
finishes before bytes store rest none w = record {
  read = w.read;
  blocks = subst (λ (l : List ℕ). Blocks l w.read) (sym (w.parts ∙ ap (λ (l : List ℕ). w.taken ++ l) none ∙ append-nil w.taken)) w.blocks;
  union = w.union;
}

pub finished_reads : (before : Store) (bytes : List ℕ) (store : Store) → Finished before bytes store → ReadsOn bytes before store
finished_reads before bytes store f = λ blocks u.
    (f.read, f.blocks, union_over (blocks_of before) blocks f.read before store (own_union before (union_distinct blocks before u)) u f.union)

pub finished_only : (before : Store) (bytes : List ℕ) (store : Store) → Finished before bytes store → (read : List Block) (s : Store)
    → Blocks bytes read → IsUnion (blocks_of before ++ read) s → store ≡ s
finished_only before bytes store f read s blocks u = one_union (blocks_of before ++ read) store s
    (subst (λ (l : List Block). IsUnion (blocks_of before ++ l) store) (one_list bytes f.read read f.blocks blocks) f.union) u

pub finished_not_refused : (before : Store) (bytes : List ℕ) (store : Store) → Finished before bytes store → (why : Refused) → FirstRefusal before bytes why → ⊥
finished_not_refused before bytes store f why first = not_both before bytes why (f.read, store, f.blocks, f.union) first

-- a block that isn't whole is refused at its offset
pub rest_refused : (fed place : ℕ) (before : Store) (bytes : List ℕ) (store : Store) (rest : List ℕ) → rest ≢ [] → place + length rest ≡ fed
    → Feeds (record { length = fed; kept = waiting store rest }) before bytes → FirstRefusal before bytes (bad_exec place)
rest_refused fed place before bytes store rest some at f =
    let w = f.stands in
    record {
      read = w.read;
      taken = w.taken;
      rest = rest;
      store = store;
      parts = w.parts;
      blocks = w.blocks;
      union = w.union;
      refused = (
        omega (arith, at, f.size, ap length w.parts, length-append w.taken rest),
        record {
          some = some;
          none = λ b front more parts block follows. w.unfinished.none b front more parts block;
          known = w.unfinished.known;
        },
      );
    }

pub all_refused : (fed : ℕ) (why : ExecRefusal) (before : Store) (bytes : List ℕ) → Feeds (record { length = fed; kept = refused why }) before bytes
    → FirstRefusal before bytes (why_of why)
all_refused fed why before bytes f = subst (λ (l : List ℕ). FirstRefusal before l (why_of why)) (append-nil bytes) (f.stands [])

-- ---- what the end says

-- bytes that are refused are not taken
pub other_union : (before : Store) (bytes : List ℕ) (e : Fail ExecRefusal) → IsSaid e → Refuses e before bytes → IsTaken before bytes → ⊥
other_union before bytes fails.Memory said why taken = absurd said
other_union before bytes (fails.Said refusal) said why taken = not_both before bytes (why_of refusal) taken why

-- ---- what is kept

-- the bytes that are kept stand behind the last whole block, where all may still be taken
pub kept_behind : (f : Feed) (before : Store) (bytes more : List ℕ) → Feeds f before bytes → IsTaken before (bytes ++ more) → StandBehindBlocks bytes (rest_of f.kept)
kept_behind f before bytes more feeds taken = by f.kept feeds.stands
  where
    by : (k : Kept) → StandsTo k before bytes → StandBehindBlocks bytes (rest_of k)
    by (waiting store rest) w = rest_behind before bytes store rest w
    by (refused why) lasts = absurd (refused_not_taken why before bytes more lasts taken)

-- what a sound state keeps is less than the longest block
pub sound_small : {T : Type 0} (held : T → Held) (state : State T) (fed : ℕ) → IsSound held state fed → rest_of (kept_of held state) < most_block
sound_small held (states.Waiting w) fed sound = sound.3
sound_small held (states.Refused why) fed sound = omega arith

-- a sound state keeps no more than the bytes that were fed
pub sound_fed : {T : Type 0} (held : T → Held) (state : State T) (w : Waiting T) (fed : ℕ) → state ≡ states.Waiting w → IsSound held state fed → length w.rest.items ≤ fed
sound_fed {T} held state w fed is sound = (subst (λ (s : State T). IsSound held s fed) is sound).2
