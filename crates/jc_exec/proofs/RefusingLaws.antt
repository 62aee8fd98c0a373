-- A text is refused for one reason at most, and not where all of its blocks have a union with the store.
use Rattle.std.proofs.Common.{◌≡◌, ℕ, zero, suc, ◌<◌, List, [], ◌∷◌, ◌++◌, length, take, Contains, get_or, refl, sym, ◌∙◌, ap, subst, arith, append_assoc, length-append}
use Rattle.std.proofs.lemmas.List.{append-nil, take_at}
use Rattle.std.proofs.lemmas.List.Elements.{Contains-append_left, Contains-push}
use Rattle.byteorder.specs.Endian.{big_number}
use Rattle.jc_exec.specs.declared.hits.ClassHits.{ClassHits}
use Rattle.jc_exec.specs.Format.{Block, header, session, class, header_text, IsBlock, AreBlocks, Blocks, BeginsWithHeader}
use Rattle.jc_exec.specs.Store.{Store}
use Rattle.jc_exec.specs.Union.{records_of, IsUnion}
use Rattle.jc_exec.specs.Refusing.{Refused, bad_exec, other_version, conflict, blocks_of, MayFollow, HasOtherHeader, HasConflict, RefusedHere, FirstRefusal, OneOfEachId, IsTaken}
use Rattle.jc_exec.proofs.ListLaws.{kind_of, kind_first, one_front, no_block}
use Rattle.jc_exec.proofs.MergingLaws.{union_consistent, union_distinct}
use Rattle.jc_exec.proofs.StoreLaws.{new_and_there}
use Rattle.jc_exec.proofs.UnionLaws.{records-append, one_union, merged_of}

-- ---- a header of another version

other_header_kind : (text : List ℕ) (found : ℕ) → HasOtherHeader text found → get_or text 0 0 ≡ 1
other_header_kind text found h = ap (λ (l : List ℕ). get_or l 0 0) h.parts

behind_kind : (a b c : ℕ) (xs ys : List ℕ) → a ∷ b ∷ c ∷ xs ≡ a ∷ b ∷ c ∷ ys → xs ≡ ys
behind_kind a b c xs ys e = cc

same_version : (text : List ℕ) (m n : ℕ) → HasOtherHeader text m → HasOtherHeader text n → m ≡ n
same_version text m n a b =
    let behind : a.version ++ a.more ≡ b.version ++ b.more = behind_kind 0x01 0xc0 0xc0 (a.version ++ a.more) (b.version ++ b.more) (sym a.parts ∙ b.parts) in
    let same : a.version ≡ b.version = sym (take_at a.version a.more 2 a.value.size) ∙ ap (take 2) behind ∙ take_at b.version b.more 2 b.value.size in
    sym a.value.value ∙ ap (big_number 2) same ∙ b.value.value

no_other_header : (text more : List ℕ) (found : ℕ) → text ≡ header_text ++ more → HasOtherHeader text found → ⊥
no_other_header text more found parts h =
    let behind : h.version ++ h.more ≡ 0x10 ∷ 0x07 ∷ more = behind_kind 0x01 0xc0 0xc0 (h.version ++ h.more) (0x10 ∷ 0x07 ∷ more) (sym h.parts ∙ parts) in
    let same : h.version ≡ 0x10 ∷ 0x07 ∷ [] = sym (take_at h.version h.more 2 h.value.size) ∙ ap (take 2) behind in
    h.other (sym h.value.value ∙ ap (big_number 2) same)

-- ---- what is refused is not taken

-- b may stand behind the blocks, and there is a union of the base and these, and what follows
abbrev Stops : List Block → List Block → List ℕ → Type 0
Stops base read rest = (b : Block) (front more : List ℕ) (later : List Block) (t : Store) → rest ≡ front ++ more → IsBlock front b → MayFollow read b → IsUnion (base ++ (read ++ b ∷ later)) t → ⊥

contains_more : (base read later : List Block) (r : ClassHits) → Contains (records_of (base ++ read)) r → Contains (records_of (base ++ (read ++ later))) r
contains_more base read later r there =
    subst (λ (l : List ClassHits). Contains l r) (sym (records-append (base ++ read) later) ∙ ap records_of (append_assoc base read later))
    (Contains-append_left (records_of (base ++ read)) (records_of later) r there)

contains_block : (base read later : List Block) (r : ClassHits) → Contains (records_of (base ++ (read ++ class r ∷ later))) r
contains_block base read later r =
    let all : (records_of (base ++ read) ++ r ∷ []) ++ records_of later ≡ records_of (base ++ (read ++ class r ∷ later)) =
    append_assoc (records_of (base ++ read)) (r ∷ []) (records_of later) ∙ sym (records-append (base ++ read) (class r ∷ later)) ∙ ap records_of (append_assoc base read (class r ∷ later)) in
    subst (λ (l : List ClassHits). Contains l r) all (Contains-append_left (records_of (base ++ read) ++ r ∷ []) (records_of later) r (Contains-push (records_of (base ++ read)) r))

no_conflict : (base read later : List Block) (s t : Store) (text : List ℕ) (there hits : ClassHits) → IsUnion (base ++ read) s
    → IsUnion (base ++ (read ++ class hits ∷ later)) t → HasConflict read s text there hits → ⊥
no_conflict base read later s t text there hits u v h =
    let rs = records_of (base ++ read) in
    let own = merged_of (base ++ read) s there u h.holds in
    let r = own.1 in
    let of_there = own.0.agrees r.0 r.1 r.2 in
    let of_hits = union_consistent (base ++ (read ++ class hits ∷ later)) t v r.0 hits (contains_more base read (class hits ∷ later) r.0 r.1) (contains_block base read later hits) (r.2 ∙ h.same_id) in
    h.differs (record { name = sym of_there.name ∙ of_hits.name; count = sym of_there.count ∙ of_hits.count })

stops : (base read : List Block) (s : Store) (offset : ℕ) (rest : List ℕ) (why : Refused) → IsUnion (base ++ read) s → RefusedHere read s offset rest why → Stops base read rest
stops base read s offset rest (bad_exec p) u h b front more later t parts block follows v = h.1.none b front more parts block follows
stops base read s offset rest (other_version found) u h b front more later t parts block follows v = by b block (sym (kind_first b rest front more block parts) ∙ other_header_kind rest found h)
  where
    by : (b : Block) → IsBlock front b → kind_of b ≡ 1 → ⊥
    by header block kind = no_other_header rest more found (parts ∙ ap (λ (l : List ℕ). l ++ more) block) h
    by (session x) block kind = omega (arith, kind)
    by (class c) block kind = omega (arith, kind)
stops base read s offset rest (conflict id first second m n) u (there, hits, h, i1, i2, i3, i4, i5) b front more later t parts block follows v =
    let same = one_front (class hits) b rest h.front h.more front more h.block block h.parts parts in
    no_conflict base read later s t rest there hits u (subst (λ (x : Block). IsUnion (base ++ (read ++ x ∷ later)) t) (sym same.0) v) h

-- ---- two ways to cut a text

begins_front : (xs : List Block) (y : Block) (ys : List Block) → BeginsWithHeader (xs ++ y ∷ ys) → BeginsWithHeader (xs ++ y ∷ [])
begins_front [] header ys b = tt
begins_front [] (session s) ys b = b
begins_front [] (class c) ys b = b
begins_front (header ∷ xs) y ys b = tt
begins_front (session s ∷ xs) y ys b = b
begins_front (class c ∷ xs) y ys b = b

-- a list of blocks that stops, and what it leaves
pub record Cut (base done : List Block) (text : List ℕ) (xs : List Block) (rest : List ℕ) : Type 0 where
  pub taken : List ℕ
  pub store : Store
  pub parts : text ≡ taken ++ rest
  pub blocks : AreBlocks taken xs
  pub begins : BeginsWithHeader (done ++ xs)
  pub union : IsUnion (base ++ (done ++ xs)) store
  pub stops : Stops base (done ++ xs) rest

cut_empty : (base done : List Block) (text rest : List ℕ) → Cut base done text [] rest → text ≡ rest
cut_empty base done text rest c = c.parts ∙ ap (λ (l : List ℕ). l ++ rest) c.blocks

cut_front : (base done : List Block) (text rest : List ℕ) (x : Block) (xs : List Block) (c : Cut base done text (x ∷ xs) rest) → text ≡ c.blocks.0 ++ (c.blocks.1 ++ rest)
cut_front base done text rest x xs c = c.parts ∙ ap (λ (l : List ℕ). l ++ rest) c.blocks.2 ∙ append_assoc c.blocks.0 c.blocks.1 rest

cut_more : (base done : List Block) (text rest : List ℕ) (x : Block) (xs : List Block) (c : Cut base done text (x ∷ xs) rest) → Cut base (done ++ x ∷ []) (c.blocks.1 ++ rest) xs rest
cut_more base done text rest x xs c =
    let same : done ++ x ∷ xs ≡ (done ++ x ∷ []) ++ xs = sym (append_assoc done (x ∷ []) xs) in
    record {
      taken = c.blocks.1;
      store = c.store;
      parts = refl;
      blocks = c.blocks.4;
      begins = subst BeginsWithHeader same c.begins;
      union = subst (λ (l : List Block). IsUnion (base ++ l) c.store) same c.union;
      stops = subst (λ (l : List Block). Stops base l rest) same c.stops;
    }

-- one that stops at once does not stop later
not_later : (base done : List Block) (text rest later : List ℕ) (y : Block) (ys : List Block) → Cut base done text [] rest → Cut base done text (y ∷ ys) later → ⊥
not_later base done text rest later y ys a b =
    subst (λ (l : List Block). Stops base l rest) (append-nil done) a.stops y b.blocks.0 (b.blocks.1 ++ later) ys b.store
    (sym (cut_empty base done text rest a) ∙ cut_front base done text later y ys b) b.blocks.3 (begins_front done y ys b.begins) b.union

same_cut : (base done : List Block) (text rest later : List ℕ) (xs ys : List Block) → Cut base done text xs rest → Cut base done text ys later → (xs ≡ ys) × (rest ≡ later)
same_cut base done text rest later [] [] a b = (refl, sym (cut_empty base done text rest a) ∙ cut_empty base done text later b)
same_cut base done text rest later (x ∷ xs) [] a b = absurd (not_later base done text later rest x xs b a)
same_cut base done text rest later [] (y ∷ ys) a b = absurd (not_later base done text rest later y ys a b)
same_cut base done text rest later (x ∷ xs) (y ∷ ys) a b =
    let same = one_front x y text a.blocks.0 (a.blocks.1 ++ rest) b.blocks.0 (b.blocks.1 ++ later) a.blocks.3 b.blocks.3
    (cut_front base done text rest x xs a) (cut_front base done text later y ys b) in
    let next : Cut base (done ++ x ∷ []) (a.blocks.1 ++ rest) ys later = subst (λ (l : List ℕ). Cut base (done ++ x ∷ []) l ys later) (sym same.1)
    (subst (λ (z : Block). Cut base (done ++ z ∷ []) (b.blocks.1 ++ later) ys later) (sym same.0) (cut_more base done text later y ys b)) in
    let more = same_cut base (done ++ x ∷ []) (a.blocks.1 ++ rest) rest later xs ys (cut_more base done text rest x xs a) next in
    (λ i. same.0 i ∷ more.0 i, more.1)

cut_of : (before : Store) (text : List ℕ) (why : Refused) (f : FirstRefusal before text why) → Cut (blocks_of before) [] text f.read f.rest
cut_of before text why f = record {
  taken = f.taken;
  store = f.store;
  parts = f.parts;
  blocks = f.blocks.whole;
  begins = f.blocks.begins;
  union = f.union;
  stops = stops (blocks_of before) f.read f.store (length f.taken) f.rest why f.union f.refused;
}

cut_of_all : (before : Store) (text : List ℕ) (read : List Block) (s : Store) → Blocks text read → IsUnion (blocks_of before ++ read) s → Cut (blocks_of before) [] text read []
cut_of_all before text read s blocks u = record {
  taken = text;
  store = s;
  parts = sym (append-nil text);
  blocks = blocks.whole;
  begins = blocks.begins;
  union = u;
  stops = λ b front more later t parts block follows v. no_block b [] front more block parts refl;
}

-- ---- one reason

nothing_is_refused : (read : List Block) (s : Store) (offset : ℕ) (why : Refused) → RefusedHere read s offset [] why → ⊥
nothing_is_refused read s offset (bad_exec p) h = h.1.some refl
nothing_is_refused read s offset (other_version found) h = omega (arith, other_header_kind [] found h)
nothing_is_refused read s offset (conflict id first second m n) (there, hits, h, i1, i2, i3, i4, i5) = no_block (class hits) [] h.front h.more h.block h.parts refl

one_of_id : (cs : List ClassHits) (c d : ClassHits) (j k : ℕ) → OneOfEachId cs → j < length cs → get_or cs j c ≡ c → k < length cs → get_or cs k d ≡ d → c.id ≡ d.id → c ≡ d
one_of_id [] c d j k apart lt is below at same = absurd (omega (arith, lt))
one_of_id (x ∷ cs) c d zero zero apart lt is below at same = sym is ∙ at
one_of_id (x ∷ cs) c d zero (suc k) apart lt is below at same = absurd (new_and_there x.id cs d k apart.0 (omega (arith, below)) at (ap (λ (y : ClassHits). y.id) is ∙ same))
one_of_id (x ∷ cs) c d (suc j) zero apart lt is below at same = absurd (new_and_there x.id cs c j apart.0 (omega (arith, lt)) is (ap (λ (y : ClassHits). y.id) at ∙ sym same))
one_of_id (x ∷ cs) c d (suc j) (suc k) apart lt is below at same = one_of_id cs c d j k apart.1 (omega (arith, lt)) is (omega (arith, below)) at same

same_hits : (text : List ℕ) (read : List Block) (s : Store) (a b c d : ClassHits) → HasConflict read s text a c → HasConflict read s text b d → c ≡ d
same_hits text read s a b c d x y = of (one_front (class c) (class d) text x.front x.more y.front y.more x.block y.block x.parts y.parts).0
  where
    of : class c ≡ class d → c ≡ d
    of e = cc

one_reason_here : (read : List Block) (s : Store) (offset : ℕ) (rest : List ℕ) (a b : Refused) → OneOfEachId s.classes → RefusedHere read s offset rest a → RefusedHere read s offset rest b → a ≡ b
one_reason_here read s offset rest (bad_exec p) (bad_exec q) apart x y = ap bad_exec (x.0 ∙ sym y.0)
one_reason_here read s offset rest (bad_exec p) (other_version found) apart x y = absurd (x.1.known found y)
one_reason_here read s offset rest (bad_exec p) (conflict id first second m n) apart x (there, hits, h, i1, i2, i3, i4, i5) = absurd (x.1.none (class hits) h.front h.more h.parts h.block h.follows)
one_reason_here read s offset rest (other_version found) (bad_exec q) apart x y = absurd (y.1.known found x)
one_reason_here read s offset rest (other_version found) (other_version other) apart x y = ap other_version (same_version rest found other x y)
one_reason_here read s offset rest (other_version found) (conflict id first second m n) apart x (there, hits, h, i1, i2, i3, i4, i5) =
    absurd (omega (arith, sym (other_header_kind rest found x) ∙ kind_first (class hits) rest h.front h.more h.block h.parts))
one_reason_here read s offset rest (conflict id first second m n) (bad_exec q) apart (there, hits, h, i1, i2, i3, i4, i5) y = absurd (y.1.none (class hits) h.front h.more h.parts h.block h.follows)
one_reason_here read s offset rest (conflict id first second m n) (other_version found) apart (there, hits, h, i1, i2, i3, i4, i5) y =
    absurd (omega (arith, sym (other_header_kind rest found y) ∙ kind_first (class hits) rest h.front h.more h.block h.parts))
one_reason_here read s offset rest (conflict id first second m n) (conflict id' first' second' m' n') apart x y =
    let hits : x.1 ≡ y.1 = same_hits rest read s x.0 y.0 x.1 y.1 x.2 y.2 in
    let ids : x.0.id ≡ y.0.id = x.2.same_id ∙ ap (λ (c : ClassHits). c.id) hits ∙ sym y.2.same_id in
    let there : x.0 ≡ y.0 = one_of_id s.classes x.0 y.0 x.2.holds.0 y.2.holds.0 apart x.2.holds.1 x.2.holds.2 y.2.holds.1 y.2.holds.2 ids in
    let e1 : id ≡ id' = x.3 ∙ ap (λ (c : ClassHits). c.id) hits ∙ sym y.3 in
    let e2 : first ≡ first' = x.4 ∙ ap (λ (c : ClassHits). c.name) there ∙ sym y.4 in
    let e3 : second ≡ second' = x.5 ∙ ap (λ (c : ClassHits). c.name) hits ∙ sym y.5 in
    let e4 : m ≡ m' = x.6 ∙ ap (λ (c : ClassHits). length c.bits) there ∙ sym y.6 in
    let e5 : n ≡ n' = x.7 ∙ ap (λ (c : ClassHits). length c.bits) hits ∙ sym y.7 in
    λ i. conflict (e1 i) (e2 i) (e3 i) (e4 i) (e5 i)

pub one_reason : (before : Store) (text : List ℕ) (a b : Refused) → FirstRefusal before text a → FirstRefusal before text b → a ≡ b
one_reason before text a b x y =
    let same = same_cut (blocks_of before) [] text x.rest y.rest x.read y.read (cut_of before text a x) (cut_of before text b y) in
    let store : x.store ≡ y.store = one_union (blocks_of before ++ y.read) x.store y.store (subst (λ (l : List Block). IsUnion (blocks_of before ++ l) x.store) same.0 x.union) y.union in
    let offset : length x.taken ≡ length y.taken = omega (arith, ap length x.parts, length-append x.taken x.rest, ap length y.parts, length-append y.taken y.rest, ap length same.1) in
    let first : RefusedHere y.read y.store (length y.taken) y.rest a = subst (λ (l : List Block). RefusedHere l y.store (length y.taken) y.rest a)
    same.0 (subst (λ (s : Store). RefusedHere x.read s (length y.taken) y.rest a) store
    (subst (λ (n : ℕ). RefusedHere x.read x.store n y.rest a) offset
    (subst (λ (l : List ℕ). RefusedHere x.read x.store (length x.taken) l a) same.1 x.refused))) in
    one_reason_here y.read y.store (length y.taken) y.rest a b (union_distinct (blocks_of before ++ y.read) y.store y.union) first y.refused

pub not_both : (before : Store) (text : List ℕ) (why : Refused) → IsTaken before text → FirstRefusal before text why → ⊥
not_both before text why (read, s, blocks, u) x =
    let same = same_cut (blocks_of before) [] text x.rest [] x.read read (cut_of before text why x) (cut_of_all before text read s blocks u) in
    nothing_is_refused x.read x.store (length x.taken) why (subst (λ (l : List ℕ). RefusedHere x.read x.store (length x.taken) l why) same.1 x.refused)
