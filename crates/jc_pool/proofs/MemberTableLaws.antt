-- The table of members, in a pool with one entry more.
use Rattle.std.proofs.Common.{◌≡◌, inl, inr, ℕ, ◌+◌, ◌<◌, ◌≤◌, List, [], ◌∷◌, ◌++◌, length, IfSome, Option, Some, None, refl, sym, ◌∙◌, ap, subst, arith}
use Rattle.std.proofs.Math.Seq.{get_or-append_seam}
use Rattle.std.proofs.lemmas.Bool.{cases_Bool, cases_lt}
use Rattle.std.proofs.lemmas.Option.{none-some}
use Rattle.jc_bytes.specs.Decoder.{◌>>=◌}
use Rattle.jc_pool.specs.declared.entry.Entry.{Entry}
use Rattle.jc_pool.specs.declared.entry.Entry.TheVariants as entry
use Rattle.jc_pool.specs.declared.index.Key.{Key}
use Rattle.jc_pool.specs.declared.members.NamedPlaces.{NamedPlaces}
use Rattle.jc_pool.specs.Pool.{PoolValue, is_wide, width, slots_of}
use Rattle.jc_pool.specs.Lookup.{entry_of}
use Rattle.jc_pool.specs.Adding.{IsPut}
use Rattle.jc_pool.specs.Index.{IsFirstBelow, AreFirsts, NotesEntry, key_in, key_at, slot_places, NamesWithin, member_key, places_key, member_key_at, AreMembersOf}
use Rattle.jc_pool.proofs.FirstPlaceLaws.{same_below}
use Rattle.jc_pool.proofs.IndexLaws.{none_yet, more_keys}
use Rattle.jc_pool.proofs.OneMoreEntryLaws.{entry_stays, entry_past, one_more, by_slots, entry_put, grown_length, stays}

-- ---- what stands behind

nothing_behind : (pool : PoolValue) (place : ℕ) → length pool ≤ place → entry_of (pool ++ None ∷ []) place ≡ None
nothing_behind pool place behind = elim (cases_lt (length pool) place) [
  | inl beyond ↦ entry_past (pool ++ None ∷ []) place (omega (arith, beyond, one_more pool None))
  | inr no_more ↦ (let last : place ≡ length pool = omega (arith, behind, no_more) in ap (entry_of (pool ++ None ∷ [])) last ∙ get_or-append_seam pool None [] None)
]

entry_behind : (pool : PoolValue) (e : Entry) (place : ℕ) → length pool < place → entry_of (pool ++ slots_of e) place ≡ None
entry_behind pool e place beyond =
    by_slots (λ l. entry_of l place ≡ None) pool e (entry_past (pool ++ Some e ∷ []) place (omega (arith, beyond, one_more pool (Some e))))
    (λ one. nothing_behind (pool ++ Some e ∷ []) place (omega (arith, beyond, one_more pool (Some e))))

-- ---- what members name

key_stays : (firsts : List ℕ) (pool more : PoolValue) (place : ℕ) → place < length pool → key_at firsts (pool ++ more) place ≡ key_at firsts pool place
unfolding key_at
key_stays firsts pool more place less = stays (key_in firsts) pool more place less

places_key_stays : (firsts : List ℕ) (pool more : PoolValue) (named : Option NamedPlaces) → IfSome named (λ n. (n.class < length pool) × (n.name_and_type < length pool))
    → (named >>= places_key firsts (pool ++ more)) ≡ (named >>= places_key firsts pool)
places_key_stays firsts pool more None within = refl
places_key_stays firsts pool more (Some named) within =
    λ i. member_key named.tag (key_stays firsts pool more named.class within.0 i) (key_stays firsts pool more named.name_and_type within.1 i)

within_more : (end more : ℕ) (named : Option NamedPlaces) → end ≤ more → IfSome named (λ n. (n.class < end) × (n.name_and_type < end)) → IfSome named (λ n. (n.class < more) × (n.name_and_type < more))
within_more end more None later within = tt
within_more end more (Some named) later within = (omega (arith, within.0, later), omega (arith, within.1, later))

-- a table of all that is found below one place is one below a later place, where nothing is found from the first on
all_later : {X : Type 0} (found : ℕ → Option X) (end later : ℕ) (table : X → Option ℕ) → end ≤ later → ((q : ℕ) → end ≤ q → found q ≡ None) → AreFirsts end found table → AreFirsts later found table
all_later {X} found end later table more none firsts x = by (table x) (firsts x)
  where
    by : (r : Option ℕ) → IsFirstBelow end found x r → IsFirstBelow later found x r
    by (Some p) is = (omega (arith, is.0, more), is.1)
    by None is = λ q less there. elim (cases_lt q end) [ inl below ↦ is q below there | inr past ↦ none-some x (sym (none q past) ∙ there) ]

-- ---- one entry more

some_places : (e : Entry) → 1 ≤ width e
some_places e = elim (cases_Bool (is_wide e)) [ inl wide ↦ rw wide (omega arith) | inr narrow ↦ rw narrow (omega arith) ]

module _ (firsts : List ℕ) (old new : PoolValue) (e : Entry) (place : ℕ) (put : IsPut old new e place) where
  size : length new ≡ length old + width e
  size = ap length put.grown ∙ grown_length old e

  longer : length old < length new
  longer = omega (arith, size, some_places e)

  stands : entry_of new place ≡ Some e
  stands = (λ i. entry_of (put.grown i) (put.last i)) ∙ entry_put old e

  there : (at : ℕ) → at ≡ length old → entry_of new at ≡ Some e
  there at last = ap (entry_of new) (last ∙ sym put.last) ∙ stands

  beyond_none : (at : ℕ) → length old < at → entry_of new at ≡ None
  beyond_none at beyond = ap (λ (l : PoolValue). entry_of l at) put.grown ∙ entry_behind old e at beyond

  before : (at : ℕ) → at < length old → entry_of new at ≡ entry_of old at
  before at less = ap (λ (l : PoolValue). entry_of l at) put.grown ∙ entry_stays old (slots_of e) at less

  module _ (within : NamesWithin (length old) (Some e)) (table later : Key → Option ℕ) (members : AreMembersOf old firsts table) where
    grown_within : (slot : Option Entry) → NamesWithin (length old) slot → NamesWithin (length new) slot
    grown_within slot is = within_more (length old) (length new) (slot_places slot) (omega (arith, longer)) is

    names_within : (at : ℕ) → NamesWithin (length new) (entry_of new at)
    names_within at = elim (cases_lt at (length old)) [
      | inl less ↦ subst (NamesWithin (length new)) (sym (before at less)) (grown_within (entry_of old at) (members.within at))
      | inr behind ↦ elim (cases_lt (length old) at) [
        | inl beyond ↦ subst (NamesWithin (length new)) (sym (beyond_none at beyond)) tt
        | inr no_more ↦ subst (NamesWithin (length new)) (sym (there at (omega (arith, behind, no_more)))) (grown_within (Some e) within)
      ]
    ]

    same_key_before : (at : ℕ) → at < length old → member_key_at firsts new at ≡ member_key_at firsts old at
    same_key_before at less =
        ap (λ (slot : Option Entry). slot_places slot >>= places_key firsts new) (before at less)
        ∙ ap (λ (l : PoolValue). slot_places (entry_of old at) >>= places_key firsts l) put.grown
        ∙ places_key_stays firsts old (slots_of e) (slot_places (entry_of old at)) (members.within at)

    no_key_beyond : (at : ℕ) → length old + 1 ≤ at → member_key_at firsts new at ≡ None
    no_key_beyond at beyond = ap (λ (slot : Option Entry). slot_places slot >>= places_key firsts new) (beyond_none at (omega (arith, beyond)))

    pub members_put : NotesEntry table later (member_key_at firsts new place) place → AreMembersOf new firsts later
    members_put notes = record {
      within = names_within;
      first = all_later (member_key_at firsts new) (length old + 1) (length new) later (omega (arith, longer)) no_key_beyond
          (more_keys (member_key_at firsts new) (length old) (length old + 1) place table later (member_key_at firsts new place) (ap (member_key_at firsts new) (sym put.last)) put.last refl notes
          (same_below (member_key_at firsts old) (member_key_at firsts new) (length old) table same_key_before members.first));
    }

-- a text is no member
pub text_members : (firsts : List ℕ) (old new : PoolValue) (table : Key → Option ℕ) (text : List ℕ) (place : ℕ) → IsPut old new (entry.Utf8 text) place
    → AreMembersOf old firsts table → AreMembersOf new firsts table
text_members firsts old new table text place put are =
    members_put firsts old new (entry.Utf8 text) place put tt table table are
    (subst (λ (k : Option Key). NotesEntry table table k place) (sym keyless) (λ k. refl))
  where
    keyless : member_key_at firsts new place ≡ None
    keyless = ap (λ (slot : Option Entry). slot_places slot >>= places_key firsts new) (stands firsts old new (entry.Utf8 text) place put)

-- ---- a table that is made place by place

-- the members at so many places are noted, and each names places of the pool alone
pub record MembersRead (pool : PoolValue) (firsts : List ℕ) (n : ℕ) (table : Key → Option ℕ) : Type 0 where
  pub first : AreFirsts n (member_key_at firsts pool) table
  pub within : (place : ℕ) → place < n → NamesWithin (length pool) (entry_of pool place)

module _ (pool : PoolValue) (firsts : List ℕ) (n : ℕ) where
  pub none_read : (table : Key → Option ℕ) → n ≡ 0 → ((k : Key) → table k ≡ None) → MembersRead pool firsts n table
  none_read table zero none = record {
    first = subst (λ (m : ℕ). AreFirsts m (member_key_at firsts pool) table) (sym zero) (none_yet (member_key_at firsts pool) table none);
    within = λ place less. absurd (omega (arith, zero, less));
  }

  pub one_more_read : (old new : Key → Option ℕ) → NamesWithin (length pool) (entry_of pool n) → NotesEntry old new (member_key_at firsts pool n) n
      → MembersRead pool firsts n old → MembersRead pool firsts (n + 1) new
  one_more_read old new here notes read = record {
    first = more_keys (member_key_at firsts pool) n (n + 1) n old new (member_key_at firsts pool n) refl refl refl notes read.first;
    within = λ place less. elim (cases_lt place n) [
      | inl below ↦ read.within place below
      | inr last ↦ (let is : place ≡ n = omega (arith, less, last) in subst (λ (p : ℕ). NamesWithin (length pool) (entry_of pool p)) (sym is) here)
    ];
  }

  pub all_read : (table : Key → Option ℕ) → n ≡ length pool → MembersRead pool firsts n table → AreMembersOf pool firsts table
  all_read table whole read = record {
    within = λ place. elim (cases_lt place n) [
      | inl below ↦ read.within place below
      | inr behind ↦ subst (NamesWithin (length pool)) (sym (entry_past pool place (omega (arith, behind, whole)))) tt
    ];
    first = subst (λ (m : ℕ). AreFirsts m (member_key_at firsts pool) table) whole read.first;
  }
