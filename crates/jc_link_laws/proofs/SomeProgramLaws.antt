-- Files have a program, or a reason for which they have none.
use Rattle.std.proofs.Common.{◌≡◌, ◌⊎◌, inl, inr, ℕ, zero, suc, ◌<◌, ◌≤◌, List, [], ◌∷◌, ◌++◌, length, map, get_or, Some, append_assoc, refl, sym, ◌∙◌, ap, subst, arith}
use Rattle.std.specs.Prelude.{slice_get}
use Rattle.std.specs.List.{AllByRecursion, sum_by}
use Rattle.std.specs.Option.{option_map}
use Rattle.std.proofs.lemmas.Bool.{cases_lt}
use Rattle.std.proofs.lemmas.List.{append-nil}
use Rattle.std.proofs.lemmas.Option.{none-some, same_Some, slice_get-map, slice_get-get_or}
use Rattle.jc_bytes.specs.Reader.{most_read}
use Rattle.jc_bytes.specs.declared.refusal.Refusal.{Refusal}
use Rattle.jc_bytes.specs.declared.refusal.RefusalKind.TheVariants as kinds
use Rattle.jc_bytes.proofs.ListLaws.{below_or_last, item_at}
use Rattle.jc_methods.specs.VerificationTypes.{Names, Grows, AreNumberedFrames}
use Rattle.jc_methods.specs.declared.body.Body.{Body}
use Rattle.jc_methods.proofs.MetNamesLaws.{grows_both, grows_none}
use Rattle.jc_methods.proofs.NumberedLaws.{grown_count, frames_numbered}
use Rattle.jc_programs.specs.declared.program.Linked.{Linked}
use Rattle.jc_programs.specs.declared.program.Program.{Program}
use Rattle.jc_class.specs.ClassText.{ClassText, FirstBad, not_a_class}
use Rattle.jc_class.specs.Writable.{IsClassFile}
use Rattle.jc_class.specs.declared.class_file.ClassFile.{ClassFile}
use Rattle.jc_class.proofs.FirstBadLaws.{each_text}
use Rattle.jc_class.proofs.WritableLaws.{class_holds}
use Rattle.jc_body.specs.BodyOf.{BodyOf, Bodiless}
use Rattle.jc_instrument.specs.Bodies.{AreBodies, IsListed}
use Rattle.jc_instrument.specs.Causes.{IsFirstCause, NoCause, of_class}
use Rattle.jc_instrument.specs.Reasons.{IsFaulty, IsOutside, OfBody, WrongVersion, code_causes}
use Rattle.jc_instrument.proofs.CausesDecidedLaws.{subroutine_at, bad_code_at, faulty_below, missing_at, missing_below, clash_at, clash_below}
use Rattle.jc_instrument.proofs.DecidedLaws.{AreDecided, IsDecided, first_or_none, in_method_decided}
use Rattle.jc_instrument.proofs.KeptStatesLaws.{states_grown}
use Rattle.jc_instrument.proofs.ListedLaws.{grown_bodies}
use Rattle.jc_instrument.proofs.PoolTextLaws.{IsReadPool, class_pool}
use Rattle.jc_instrument.proofs.RenumberedLaws.{raised_body, renumbered}
use Rattle.jc_instrument.proofs.SomeBodiesLaws.{AllBodies, all_bodies, made_well, passes}
use Rattle.jc_instrument.proofs.TextSizesLaws.{class_size, method_size}
use Rattle.jc_instrument.proofs.SomeStatesLaws.{all_states}
use Rattle.jc_kinds.specs.Checked.{FirstMissing, FirstClash}
use Rattle.jc_instrument.specs.Steps.{HasStates}
use Rattle.jc_link_programs.specs.Linking.{link_causes, LinkReason, IsLinkedOf, IsLinkedClass, AreLinkedClasses, IsProgramOf, IsFirstRefused, IsLinkRefusal, refused, one_name, one_id}
use Rattle.jc_link_programs.specs.Pairs.{HaveOneName, HaveOneId, NoPair, IsFirstPair}
use Rattle.jc_link_programs.specs.Statics.{has_clinit, statics_of}
use Rattle.jc_link_programs.specs.declared.link_refusal.LinkRefusal.{LinkRefusal}
use Rattle.jc_link_programs.proofs.LinkingLaws.{all_more, none_refused, put_linked}
use Rattle.jc_link_laws.specs.TwinFiles.{IsShortFile}
use Rattle.jc_link_laws.proofs.FoundPairLaws.{name_pair, id_pair}
use Rattle.jc_link_laws.proofs.FoundProbesLaws.{found_probes}

-- ---- why a class isn't linked, if it isn't

link_decided : (c : ClassFile) → IsClassFile c → AreDecided (link_causes c)
link_decided c is = (
  by (cases_lt c.major 50) (cases_lt 65 c.major),
  (
    in_method_decided kinds.Subroutine (IsFaulty c kinds.Subroutine) (length c.methods) (subroutine_at c is) (faulty_below c is kinds.Subroutine),
    (
      in_method_decided kinds.BadCode (IsFaulty c kinds.BadCode) (length c.methods) (bad_code_at c is) (faulty_below c is kinds.BadCode),
      (
        in_method_decided kinds.FrameMissing (OfBody c (λ _ b place. FirstMissing b place)) (length c.methods) (missing_at c is) (missing_below c is),
        (in_method_decided kinds.FrameClash (OfBody c FirstClash) (length c.methods) (clash_at c is) (clash_below c is), tt),
      ),
    ),
  ),
)
  where
    none : (50 ≤ c.major) → (c.major ≤ 65) → (r : Refusal) → WrongVersion c r → ⊥
    none low high r w = inside w.outside
      where
        inside : IsOutside c.major → ⊥
        inside (inl less) = omega (arith, less, low)
        inside (inr more) = omega (arith, more, high)

    by : (c.major < 50) ⊎ (50 ≤ c.major) → (65 < c.major) ⊎ (c.major ≤ 65) → IsDecided (WrongVersion c)
    by (inl old) new = inl (of_class kinds.Version c.major, record { outside = inl old; refusal = refl })
    by (inr low) (inl new) = inl (of_class kinds.Version c.major, record { outside = inr new; refusal = refl })
    by (inr low) (inr high) = inr (none low high)

-- ---- lists

of_mapped : {X Y : Type 0} (f : X → Y) (xs : List X) (i : ℕ) (y : Y) → slice_get (map f xs) i ≡ Some y → (x : X) × (slice_get xs i ≡ Some x) × (y ≡ f x)
of_mapped f [] i y at = absurd (none-some y at)
of_mapped f (x ∷ xs) zero y at = (x, refl, sym (same_Some (f x) y at))
of_mapped f (x ∷ xs) (suc i) y at = of_mapped f xs i y at

stands_behind : (xs : List (List ℕ)) (x : List ℕ) (ys : List (List ℕ)) → slice_get (xs ++ x ∷ ys) (length xs) ≡ Some x
stands_behind [] x ys = refl
stands_behind (z ∷ xs) x ys = stands_behind xs x ys

stands_in_front : (xs ys : List (List ℕ)) (k : ℕ) (x : List ℕ) → k < length xs → slice_get (xs ++ ys) k ≡ Some x → slice_get xs k ≡ Some x
stands_in_front [] ys k x less at = absurd (omega (arith, less))
stands_in_front (z ∷ xs) ys zero x less at = at
stands_in_front (z ∷ xs) ys (suc k) x less at = stands_in_front xs ys k x (omega (arith, less)) at

-- ---- the states of bodies, under more names

record SomeStates (old : Names) (bodies : List Body) (n : ℕ) : Type 0 where
  names : Names
  grows : Grows old names
  each : (k : ℕ) (b : Body) → k < n → slice_get bodies k ≡ Some b → HasStates names b

module _ (c : ClassFile) (is : IsClassFile c) (read : IsReadPool c.pool) (most : sum_by method_size c.methods ≤ most_read) (none : NoCause (code_causes c)) where
  module _ (old : Names) (bodies : List Body) (are : AreBodies old c bodies) where
    numbered_under : (new : Names) → Grows old new → (k : ℕ) (b : Body) → slice_get bodies k ≡ Some b → AreNumberedFrames (length new) b.frames
    numbered_under new grows k b at = frames_numbered _ _ b.frames (grown_count old new grows) (are.each k b at).is.parts.numbers

    more_states : (n : ℕ) → n ≤ length bodies → SomeStates old bodies n
    more_states zero inside = record { names = old; grows = grows_none old; each = λ k b less at. absurd (omega (arith, less)) }
    more_states (suc n) inside =
        let before = more_states n (omega (arith, inside)) in
        let b = item_at bodies n (omega (arith, inside)) in
        next before b.0 b.1
      where
        next : (before : SomeStates old bodies n) (b : Body) → slice_get bodies n ≡ Some b → SomeStates old bodies (suc n)
        next before b at =
            let now = grown_bodies old before.names c (length c.methods) bodies before.grows are in
            let all = all_states before.names b (made_well c is read most none before.names bodies now n b at)
            (numbered_under before.names before.grows n b at) (passes c is read most none before.names bodies now n b at) in
            record {
              names = all.names;
              grows = grows_both old before.names all.names before.grows all.grows;
              each = λ k x less there. each before all.names all.grows (all.states, all.are) k x there (last_or k less);
            }
          where
            last_or : (k : ℕ) → k < suc n → (k < n) ⊎ (k ≡ n)
            last_or k less = below_or_last n k (omega (arith, less))

            each : (before : SomeStates old bodies n) (new : Names) → Grows before.names new → HasStates new b → (k : ℕ) (x : Body) → slice_get bodies k ≡ Some x
                → (k < n) ⊎ (k ≡ n) → HasStates new x
            each before new grows here k x there (inl less) =
                let s = before.each k x less there in
                (s.0, states_grown before.names new x s.0 grows (numbered_under before.names before.grows k x there) s.1)
            each before new grows here k x there (inr last) =
                subst (HasStates new) (same_Some b x (sym at ∙ ap (λ (m : ℕ). slice_get bodies m) (sym last) ∙ there)) here

  -- what is linked of the class, under more names
  pub record SomeLinked (old : Names) : Type 0 where
    pub names : Names
    pub grows : Grows old names
    pub linked : Linked
    pub are : IsLinkedOf names c linked

  module _ (front : Names) (all : AllBodies c) where
    abbrev raised : List Body
    raised = map (raised_body front all.names) all.bodies

    abbrev under : Names
    under = front ++ all.names

    raised_are : AreBodies under c raised
    raised_are = record {
      each = λ i y at.
          let x = of_mapped (raised_body front all.names) all.bodies i y at in
          subst (λ (z : Body). BodyOf under c z.method z) (sym x.2) (renumbered front all.names c x.0.method x.0 (all.are.each i x.0 x.1));
      below = λ i y at.
          let x = of_mapped (raised_body front all.names) all.bodies i y at in
          subst (λ (z : Body). z.method < length c.methods) (sym x.2) (all.are.below i x.0 x.1);
      rising = λ i j y z less at there.
          let x = of_mapped (raised_body front all.names) all.bodies i y at in
          let w = of_mapped (raised_body front all.names) all.bodies j z there in
          subst (λ (v : Body). v.method < z.method) (sym x.2) (subst (λ (v : Body). x.0.method < v.method) (sym w.2) (all.are.rising i j x.0 w.0 less x.1 w.1));
      all = λ number less. by number (all.are.all number less);
    }
      where
        by : (number : ℕ) → Bodiless c number ⊎ IsListed all.bodies number → Bodiless c number ⊎ IsListed raised number
        by number (inl bodiless) = inl bodiless
        by number (inr l) = inr (record {
          index = l.index;
          body = raised_body front all.names l.body;
          stands = slice_get-map (raised_body front all.names) all.bodies l.index ∙ ap (option_map (raised_body front all.names)) l.stands;
          number_is = l.number_is;
        })

    with_states : SomeStates under raised (length raised) → SomeLinked front
    with_states s =
        let now = grown_bodies under s.names c (length c.methods) raised s.grows raised_are in
        let found = found_probes c is.this_class.0 raised in
        record {
          names = s.names;
          grows = grows_both front under s.names (all.names, refl) s.grows;
          linked = record {
            name = is.this_class.0;
            version = c.major;
            bodies = raised;
            statics = statics_of c;
            has_clinit = has_clinit c;
            probes = found.0;
          };
          are = record {
            name = is.this_class.1;
            version = refl;
            bodies = record {
              are = now;
              checked = λ k d less. passes c is read most none s.names raised now k (get_or raised k d) (slice_get-get_or raised k d less);
            };
            states = λ k d less. s.each k (get_or raised k d) less (slice_get-get_or raised k d less);
            statics = refl;
            clinit = refl;
            probes = found.1;
          };
        }

    its_linked : SomeLinked front
    its_linked = with_states (more_states under raised raised_are (length raised) (omega arith))

  pub some_linked : (front : Names) → SomeLinked front
  some_linked front = its_linked front (all_bodies c is read most none)

-- ---- a file

record LinkedMore (old : Names) (bytes : List ℕ) : Type 0 where
  names : Names
  grows : Grows old names
  linked : Linked
  is : IsLinkedClass names bytes linked

each_file : (old : Names) (bytes : List ℕ) → IsShortFile bytes → ((r : Refusal) × LinkReason bytes (Some r)) ⊎ LinkedMore old bytes
each_file old bytes short = by (each_text bytes)
  where
    linked : (c : ClassFile) → ClassText bytes c → IsClassFile c → NoCause (link_causes c) → LinkedMore old bytes
    linked c text is none =
        let size = class_size bytes c text in
        let few = short.1 in
        let some = some_linked c is (class_pool bytes c short.0 text) (omega (arith, size, few)) none.1 old in
        record {
          names = some.names;
          grows = some.grows;
          linked = some.linked;
          is = record { file = c; text = text; no_cause = none; is = some.are };
        }

    with_class : (c : ClassFile) → ClassText bytes c → IsClassFile c → ((r : Refusal) × IsFirstCause (link_causes c) r) ⊎ NoCause (link_causes c)
        → ((r : Refusal) × LinkReason bytes (Some r)) ⊎ LinkedMore old bytes
    with_class c text is (inl first) = inl (first.0, inr (c, text, first.1))
    with_class c text is (inr none) = inr (linked c text is none)

    by : ((c : ClassFile) × ClassText bytes c) ⊎ ((offset : ℕ) × FirstBad bytes offset) → ((r : Refusal) × LinkReason bytes (Some r)) ⊎ LinkedMore old bytes
    by (inl c) = let is = class_holds bytes c.0 short.0 c.1 in with_class c.0 c.1 is (first_or_none (link_causes c.0) (link_decided c.0 is))
    by (inr bad) = inl (not_a_class bad.0, inl (refl, bad.1))

-- ---- all files

abbrev Classes : List (List ℕ) → Type 0
Classes files = (names : Names) × (classes : List Linked) × AreLinkedClasses names files classes

abbrev Refused : List (List ℕ) → Type 0
Refused files = (index : ℕ) × (r : Refusal) × IsFirstRefused files index r

-- all are linked, or there is a first that is refused
abbrev Decided : List (List ℕ) → Type 0
Decided files = Classes files ⊎ Refused files

-- the files that are left, behind those that are linked
each_behind : (done rest : List (List ℕ)) → AllByRecursion IsShortFile rest → Classes done → Decided (done ++ rest)
each_behind done [] short linked = inl (subst Classes (sym (append-nil done)) linked)
each_behind done (bytes ∷ rest) short linked = by (each_file linked.0 bytes short.0) (each_behind (done ++ bytes ∷ []) rest short.1)
  where
    refused_here : (r : Refusal) → LinkReason bytes (Some r) → Refused (done ++ bytes ∷ rest)
    refused_here r reason = (
      length done,
      r,
      record {
        bytes = bytes;
        stands = stands_behind done bytes rest;
        reason = reason;
        linked = λ k before less there. none_refused linked.0 done linked.1 linked.2 k before (stands_in_front done (bytes ∷ rest) k before less there);
      },
    )

    more : LinkedMore linked.0 bytes → Classes (done ++ bytes ∷ [])
    more m = (m.names, linked.1 ++ m.linked ∷ [], put_linked m.names done linked.1 bytes m.linked (all_more linked.0 m.names done linked.1 m.grows linked.2) m.is)

    by : ((r : Refusal) × LinkReason bytes (Some r)) ⊎ LinkedMore linked.0 bytes
        → (Classes (done ++ bytes ∷ []) → Decided ((done ++ bytes ∷ []) ++ rest)) → Decided (done ++ bytes ∷ rest)
    by (inl reason) later = inr (refused_here reason.0 reason.1)
    by (inr m) later =
        let same : (done ++ bytes ∷ []) ++ rest ≡ done ++ bytes ∷ rest = append_assoc done (bytes ∷ []) rest in
        subst Decided same (later (more m))

pub program_or_reason : (files : List (List ℕ)) → AllByRecursion IsShortFile files
    → ((p : Program) × IsProgramOf files p) ⊎ ((r : LinkRefusal) × IsLinkRefusal files r)
program_or_reason files short = by (each_behind [] files short ([], [], tt))
  where
    ids : (linked : Classes files) → NoPair (HaveOneName linked.1) → ((a : ℕ) × (b : ℕ) × IsFirstPair (HaveOneId linked.1) a b) ⊎ NoPair (HaveOneId linked.1)
        → ((p : Program) × IsProgramOf files p) ⊎ ((r : LinkRefusal) × IsLinkRefusal files r)
    ids linked none (inl pair) = inr (_, one_id linked.0 linked.1 linked.2 none pair.2)
    ids linked none (inr no_id) = inl (
      record {
        classes = linked.1;
        names = linked.0;
      },
      record { classes = linked.2; one_each = none; ids = no_id },
    )

    names : (linked : Classes files) → ((a : ℕ) × (b : ℕ) × IsFirstPair (HaveOneName linked.1) a b) ⊎ NoPair (HaveOneName linked.1)
        → ((p : Program) × IsProgramOf files p) ⊎ ((r : LinkRefusal) × IsLinkRefusal files r)
    names linked (inl pair) = inr (_, one_name linked.0 linked.1 linked.2 pair.2)
    names linked (inr none) = ids linked none (id_pair linked.1)

    by : Decided files → ((p : Program) × IsProgramOf files p) ⊎ ((r : LinkRefusal) × IsLinkRefusal files r)
    by (inl linked) = names linked (name_pair linked.1)
    by (inr first) = inr (_, refused first.2)
