-- A twin is seen from each of its instructions.
use Rattle.std.proofs.Common.{◌≡◌, ℕ, suc, pos, ◌+◌, ◌<◌, Bool, true, false, nat_le, if◌then◌else◌, List, [], ◌∷◌, map, length, Some, None, refl, sym, ap, ap₂, ◌∙◌, subst, arith}
use Rattle.std.specs.Prelude.{⊤, All, slice_get}
use Rattle.std.proofs.lemmas.Bool.{leb-false}
use Rattle.std.proofs.lemmas.List.{map-id, length-map}
use Rattle.jc_bytes.specs.PlainLists.{map_from}
use Rattle.jc_methods.specs.VerificationTypes.{Names}
use Rattle.jc_methods.specs.WellMade.{IsCode, IsHandler, IsWellMadeOfAnySize, what_used}
use Rattle.jc_methods.specs.ProbeMembers.{most_short}
use Rattle.jc_methods.specs.declared.insn.Insn.{Insn}
use Rattle.jc_methods.specs.declared.insn.Insn.TheVariants as insns
use Rattle.jc_methods.specs.declared.kind.State.{State}
use Rattle.jc_methods.specs.declared.body.Body.{Body}
use Rattle.jc_methods.specs.declared.body.Use.{Use}
use Rattle.jc_methods.specs.declared.body.What.{What}
use Rattle.jc_methods.specs.declared.body.What.TheVariants as whats
use Rattle.jc_methods.specs.declared.probe_members.Fetch.{Fetch}
use Rattle.jc_methods.specs.declared.body.Handler.{Handler}
use Rattle.jc_plan.specs.Probed.{probe_of, probe_count}
use Rattle.jc_emit.specs.Sizes.{TwinForm}
use Rattle.jc_emit.specs.Marks.{TwinPlaces, PushesBy, Pushes, push, push_by, unplaced}
use Rattle.jc_emit.specs.Items.{Item, start, image, probe_id, insn_of, own_of, twin_items, lead_of, land_of}
use Rattle.jc_emit.specs.TwinTables.{moved_row}
use Rattle.jc_emit.specs.Local.{OkRow, no_ids, unchanged_items}
use Rattle.jc_emit.specs.Twin.{Twin, NamesIntegers, NamesProbes}
use Rattle.jc_emit.specs.Seen.{IsSeen, IsSeenUnchanged, GetsArray, IsInsnOf, AreInsnsOf, unchanged_marks, OkRows}
use Rattle.jc_emit.specs.TwinBodies.{IsSameBody}
use Rattle.jc_emit.proofs.BuiltLaws.{starts_at}
use Rattle.jc_emit.proofs.EdgeIdLaws.{item_within}
use Rattle.jc_emit.proofs.KnownLaws.{code_known, marks_known, leads_known, lands_known}
use Rattle.jc_emit.proofs.ToldLaws.{mapped}
use Rattle.jc_emit.proofs.LocalLaws.{twin_ok}
use Rattle.jc_emit.proofs.RowLaws.{row_ok}
use Rattle.jc_emit.proofs.UnchangedLaws.{unchanged_ok, unchanged_plain, unchanged_row}

first_of_all : {X : Type 0} (P : X → Type 0) (x : X) (xs : List X) → All P (x ∷ xs) → P x
first_of_all P x xs all = all 0 x (omega arith)

rest_of_all : {X : Type 0} (P : X → Type 0) (x : X) (xs : List X) → All P (x ∷ xs) → All P xs
rest_of_all P x xs all = λ k d lt. all (suc k) d (omega arith)

-- the instruction that pushes an id pushes it where the Integer of the id stands in its place, if it needs one
pushed : (uses : List Use) (integer : ℕ → ℕ) (id : ℕ) → (most_short < id → what_used uses (integer id) ≡ Some (whats.Int (pos id)))
    → Pushes uses (push_by integer id) id
pushed uses integer id named = by (nat_le id most_short) refl
  where
    by : (short : Bool) → nat_le id most_short ≡ short → PushesBy short uses (if short then push id else insns.Constant (integer id)) id
    by true e = refl
    by false e = (integer id, refl, named (leb-false id most_short e))

-- what is asked for the id of an item
abbrev HasInteger : List Use → (integer : ℕ → ℕ) → Item → Type 0
HasInteger uses integer (probe_id id at late) = most_short < id → what_used uses (integer id) ≡ Some (whats.Int (pos id))
HasInteger uses integer _ = ⊤

pub insn_is : (uses : List Use) (named : TwinPlaces) (v : ℕ) (x : Item) → HasInteger uses named.integer x
    → IsInsnOf uses named v x (insn_of named v x)
insn_is uses named v (probe_id id at late) has = pushed uses named.integer id has
insn_is uses named v x has = refl

-- code that is that of the items has the instruction of each
module _ (uses : List Use) (named : TwinPlaces) (v : ℕ) (items : List Item) (code : List Insn) where
  pub insns_of : code ≡ map (insn_of named v) items
      → ((q : ℕ) (x : Item) → slice_get items q ≡ Some x → HasInteger uses named.integer x) → AreInsnsOf uses named v items code
  insns_of is has = record {
    count = ap length is ∙ length-map items (insn_of named v);
    each = λ q x h. (insn_of named v x, ap (λ l. slice_get l q) is ∙ mapped (insn_of named v) items q x h, insn_is uses named v x (has q x h));
  }

-- each id of a twin has its Integer, since it is an id of the body
module _ (b : Body) (first : ℕ) (form : TwinForm) (uses : List Use) (integer : ℕ → ℕ) where
  pub ids_named : IsCode b.code → NamesIntegers first (probe_count b) uses integer
      → (q : ℕ) (x : Item) → slice_get (twin_items b first form) q ≡ Some x → HasInteger uses integer x
  ids_named is_code named q x h = by x h
    where
      by : (x : Item) → slice_get (twin_items b first form) q ≡ Some x → HasInteger uses integer x
      by (probe_id id at late) h = λ more.
          let range = item_within b first (Some b.arg_slots) (twin_items b first form) (twin_ok b first form is_code) q id (probe_id id at late) h refl in
          named id more range.0 range.1
      by x h = tt

-- an image asks for none
pub own_named : (uses : List Use) (integer : ℕ → ℕ) (x : Item) → own_of x ≡ true → HasInteger uses integer x
own_named uses integer (probe_id id at late) own = absurd (no_image own)
  where
    no_image : false ≡ true → ⊥
    no_image e = cc
own_named uses integer x own = tt

-- rows of which each is kept by what becomes of it
pub rows_kept : (Kept : Handler → Handler → Type 0) (Is : Handler → Type 0) (new : Handler → Handler) → ((h : Handler) → Is h → Kept h (new h))
    → (hs : List Handler) → All Is hs → OkRows Kept hs (map new hs)
rows_kept Kept Is new kept [] all = tt
rows_kept Kept Is new kept (h ∷ hs) all =
    (kept h (first_of_all Is h hs all), rows_kept Kept Is new kept hs (rest_of_all Is h hs all))

-- the prelude of a twin gets its array as its class does
module _ (fetch form_fetch : Fetch) (giver : What) (first count : ℕ) (uses : List Use) (items : List Item) (p : TwinPlaces) where
  pub gets_by : form_fetch ≡ fetch → slice_get items 0 ≡ Some (start form_fetch 0) → NamesProbes fetch giver first count uses p
      → GetsArray fetch giver uses items p
  gets_by same starts names = record {
    starts = starts ∙ ap (λ f. Some (start f 0)) same;
    giver_is = names.giver_is;
    array_is = names.array_is;
  }

abbrev pub seen : (names new_names : List (List ℕ)) (states : List State) (fetch : Fetch) (giver : What) (first : ℕ) (b b' : Body) → IsWellMadeOfAnySize b
    → (t : Twin names new_names states fetch giver first b b') → IsSeen fetch giver first b b' t.marks
seen names new_names states fetch giver first b b' well t =
    let marks = marks_known b first t.form t.places b'.code t.marks well.code t.code in
    let rows : b'.handlers ≡ map (moved_row (lead_of b first t.form) (land_of b first t.form)) b.handlers =
    t.tables.handlers_are
    ∙ ap₂ (λ lead land. map (moved_row lead land) b.handlers) (leads_known b first t.form t.places b'.code t.marks well.code t.code)
    (lands_known b first t.form t.places b'.code t.marks well.code t.code) in
    record {
      items = twin_items b first t.form;
      places = t.places;
      gets = gets_by fetch t.form.fetch giver first (probe_count b) b'.uses (twin_items b first t.form) t.places t.fetch_is (starts_at b first t.form) t.names_probes;
      method = t.method;
      uses = t.uses;
      code = insns_of b'.uses t.places b.arg_slots (twin_items b first t.form) b'.code (code_known b first t.form t.places b'.code t.marks well.code t.code)
          (ids_named b first t.form b'.uses t.places.integer well.code t.names_probes.integers);
      at = ap (λ m. m.at) marks;
      own = ap (λ m. m.own) marks;
      extra = ap (λ m. m.extra) marks;
      plain = tt;
      ok = twin_ok b first t.form well.code;
      rows = subst (OkRows (OkRow b.code (Some b.arg_slots) (probe_of b first) (twin_items b first t.form)) b.handlers) (sym rows)
          (rows_kept (OkRow b.code (Some b.arg_slots) (probe_of b first) (twin_items b first t.form)) (IsHandler (length b.code)) (moved_row (lead_of b first t.form) (land_of b first t.form))
          (row_ok b first t.form well.code) b.handlers well.handlers);
      max_stack = t.max_stack;
      max_locals = t.max_locals;
    }

-- ---- an unchanged body

abbrev no_places : TwinPlaces
no_places = unplaced (λ n. 0)

same_insns : (code : List Insn) (i v : ℕ) → map (insn_of no_places v) (map_from (λ k insn. image insn k None) i code) ≡ code
same_insns [] i v = refl
same_insns (insn ∷ code) i v = λ k. insn ∷ same_insns code (i + 1) v k

pub unchanged_seen : (names new_names : Names) (b b' : Body) → IsWellMadeOfAnySize b → IsSameBody names new_names b b'
    → IsSeenUnchanged b b' (unchanged_marks b)
unchanged_seen names new_names b b' well same =
    let is = same.others in
    record {
      items = unchanged_items b.code;
      places = no_places;
      gets = tt;
      method = record {
        method = ap (λ (x : Body). x.method) is;
        owner = ap (λ (x : Body). x.owner) is;
        name = ap (λ (x : Body). x.name) is;
        desc = ap (λ (x : Body). x.desc) is;
        flags = ap (λ (x : Body). x.flags) is;
        arg_slots = ap (λ (x : Body). x.arg_slots) is;
      };
      uses = λ place what used. ap (λ (x : Body). what_used x.uses place) is ∙ used;
      code = insns_of b'.uses no_places b.arg_slots (unchanged_items b.code) b'.code (ap (λ (x : Body). x.code) is ∙ sym (same_insns b.code 0 b.arg_slots))
          (λ q x h. own_named b'.uses no_places.integer x (unchanged_plain b.code q x h));
      at = refl;
      own = refl;
      extra = refl;
      plain = unchanged_plain b.code;
      ok = unchanged_ok b.code well.code;
      rows = subst (OkRows (OkRow b.code None no_ids (unchanged_items b.code)) b.handlers) (map-id b.handlers ∙ sym (ap (λ (x : Body). x.handlers) is))
          (rows_kept (OkRow b.code None no_ids (unchanged_items b.code)) (IsHandler (length b.code)) (λ h. h) (unchanged_row b.code well.code) b.handlers well.handlers);
      max_stack = ap (λ (x : Body). x.max_stack) is;
      max_locals = ap (λ (x : Body). x.max_locals) is;
    }
