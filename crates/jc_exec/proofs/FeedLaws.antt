-- A piece more, behind bytes whose whole blocks were taken.
use Rattle.std.proofs.Common.{◌≡◌, ◌≢◌, ◌⊎◌, inl, inr, ℕ, ◌+◌, ◌<◌, ◌≤◌, List, [], ◌∷◌, ◌++◌, length, drop, get_or, refl, sym, ◌∙◌, ap, subst, arith, append_assoc, length-append}
use Rattle.std.proofs.lemmas.List.{append-nil}
use Rattle.jc_bytes.specs.ByteLists.{AreBytes}
use Rattle.jc_bytes.specs.Decoder.{IsBig}
use Rattle.jc_bytes.proofs.OneTextLaws.{both_bytes, big_below}
use Rattle.jc_exec.specs.declared.session.Session.{Session}
use Rattle.jc_exec.specs.declared.refusal.ExecRefusal.{ExecRefusal}
use Rattle.jc_exec.specs.declared.refusal.ExecRefusal.TheVariants.{BadExec, OtherVersion, Conflict}
use Rattle.jc_exec.specs.Adding.{Entries, Held, store_of, store_with, with_added, Adds, StopsUnfit, StopsClash}
use Rattle.jc_exec.specs.Answers.{why_of}
use Rattle.jc_exec.specs.Feeding.{NoneInFront, Waits, most_block}
use Rattle.jc_exec.specs.Format.{Block, header, session, class, SessionParts, session_joined, Parts, joined, IsBlock}
use Rattle.jc_exec.specs.Front.{IsUnfit, MayStandAt, reading_at}
use Rattle.jc_exec.specs.Refusing.{bad_exec, conflict, blocks_of, HasOtherHeader, FirstRefusal}
use Rattle.jc_exec.specs.Store.{Store, Keyed, classes_of}
use Rattle.jc_exec.specs.Union.{IsUnion}
use Rattle.jc_exec.proofs.GatherLaws.{added_blocks, added_union, unfit_refused, clash_refused}
use Rattle.jc_exec.proofs.ListLaws.{kind_of, kind_first, no_block}
use Rattle.jc_exec.proofs.RecordLaws.{insert_none}

-- ---- a block in front of bytes that are as long as the longest

same_cons : (x y : ℕ) (xs ys : List ℕ) → x ∷ xs ≡ y ∷ ys → (x ≡ y) × (xs ≡ ys)
same_cons x y xs ys e = (cc, cc)

-- what stands in front of bytes and others, and is no longer than the bytes, stands in front of the bytes
cut : (bytes more front rest : List ℕ) → bytes ++ more ≡ front ++ rest → length front ≤ length bytes → bytes ≡ front ++ drop (length front) bytes
cut bytes more [] rest parts short = refl
cut [] more (x ∷ front) rest parts short = absurd (omega (arith, short))
cut (y ∷ bytes) more (x ∷ front) rest parts short =
    let same = same_cons y x (bytes ++ more) (front ++ rest) parts in
    let behind = cut bytes more front rest same.1 (omega (arith, short)) in
    λ i. same.0 i ∷ behind i

session_size : (p : SessionParts) → length (session_joined p) ≡ 1 + (length p.size + (length p.id + (length p.start + length p.dump)))
session_size p = omega (arith, length-append p.size (p.id ++ (p.start ++ p.dump)), length-append p.id (p.start ++ p.dump), length-append p.start p.dump)

class_size : (p : Parts) → length (joined p) ≡ 1 + (length p.id + (length p.size + (length p.name + (length p.count + length p.bits))))
class_size p =
    omega (
      arith,
      length-append p.id (p.size ++ (p.name ++ (p.count ++ p.bits))),
      length-append p.size (p.name ++ (p.count ++ p.bits)),
      length-append p.name (p.count ++ p.bits),
      length-append p.count p.bits,
    )

-- the two bytes behind some that stand in front are a number below 65,536
small_number : (bytes more front size rest : List ℕ) (n : ℕ) → AreBytes bytes → bytes ++ more ≡ front ++ (size ++ rest) → IsBig 2 size n
    → length front + 2 ≤ length bytes → n < 65536
small_number bytes more front size rest n are parts big short =
    let whole : bytes ++ more ≡ (front ++ size) ++ rest = parts ∙ sym (append_assoc front size rest) in
    let is = cut bytes more (front ++ size) rest whole (omega (arith, short, big.size, length-append front size)) in
    let all = both_bytes (front ++ size) (drop (length (front ++ size)) bytes) (subst AreBytes is are) in
    big_below 2 n size (both_bytes front size all.0).1 big

block_ends : (b : Block) (bytes more front rest : List ℕ) → AreBytes bytes → most_block ≤ length bytes → bytes ++ more ≡ front ++ rest
    → IsBlock front b → length front ≤ length bytes
block_ends header bytes more front rest are long parts block = omega (arith, long, ap length block)
block_ends (session s) bytes more front rest are long parts (p, is, spells) =
    let behind = p.id ++ (p.start ++ p.dump) in
    let whole : bytes ++ more ≡ (0x10 ∷ []) ++ (p.size ++ (behind ++ rest)) =
    parts ∙ ap (λ (l : List ℕ). l ++ rest) is ∙ ap (λ (l : List ℕ). 0x10 ∷ l) (append_assoc p.size behind rest) in
    let small = small_number bytes more (0x10 ∷ []) p.size (behind ++ rest) (length s.id) are whole spells.size (omega (arith, long)) in
    omega (arith, long, ap length is, session_size p, spells.size.size, ap length spells.id, spells.start.size, spells.dump.size, small)
block_ends (class c) bytes more front rest are long parts (p, is, spells) =
    let behind = p.name ++ (p.count ++ p.bits) in
    let whole : bytes ++ more ≡ (0x11 ∷ p.id) ++ (p.size ++ (behind ++ rest)) =
    parts ∙ ap (λ (l : List ℕ). l ++ rest) is ∙ ap (λ (l : List ℕ). 0x11 ∷ l) (append_assoc p.id (p.size ++ behind) rest ∙ ap (λ (l : List ℕ). p.id ++ l) (append_assoc p.size behind rest)) in
    let small = small_number bytes more (0x11 ∷ p.id) p.size (behind ++ rest) (length c.name) are whole spells.size (omega (arith, long, spells.id.size)) in
    omega (arith, long, ap length is, class_size p, spells.id.size, spells.size.size, ap length spells.name, small, spells.few, spells.small, spells.bits.size)

other_front : (bytes more : List ℕ) (found : ℕ) → most_block ≤ length bytes → HasOtherHeader (bytes ++ more) found → HasOtherHeader bytes found
other_front bytes more found long h =
    let front = 0x01 ∷ 0xc0 ∷ 0xc0 ∷ h.version in
    record {
      version = h.version;
      more = drop (length front) bytes;
      parts = cut bytes more front h.more h.parts (omega (arith, long, h.value.size));
      value = h.value;
      other = h.other;
    }

-- where nothing may stand in front of so many bytes, nothing may with more of them
pub long_lasts : (offset : ℕ) (bytes : List ℕ) → AreBytes bytes → most_block ≤ length bytes → IsUnfit (reading_at offset bytes) (bad_exec offset)
    → (more : List ℕ) → IsUnfit (reading_at offset (bytes ++ more)) (bad_exec offset)
long_lasts offset bytes are long unfit more = (
  refl,
  λ b front rest parts block follows. unfit.1 b front (drop (length front) bytes) (cut bytes more front rest parts (block_ends b bytes more front rest are long parts block)) block follows,
  λ found h. unfit.2 found (other_front bytes more found long h),
)

-- ---- a first byte

first_stays : (bytes more : List ℕ) → 0 < length bytes → get_or (bytes ++ more) 0 0 ≡ get_or bytes 0 0
first_stays [] more some = absurd (omega (arith, some))
first_stays (x ∷ bytes) more some = refl

-- no block that may stand there begins with this byte
pub kind_lasts : (offset : ℕ) (bytes : List ℕ) → 0 < length bytes
    → ((b : Block) → kind_of b ≡ get_or bytes 0 0 → MayStandAt offset b → ⊥) → (get_or bytes 0 0 ≡ 1 → ⊥)
    → (more : List ℕ) → IsUnfit (reading_at offset (bytes ++ more)) (bad_exec offset)
kind_lasts offset bytes some none other more = (
  refl,
  λ b front rest parts block follows. none b (sym (kind_first b (bytes ++ more) front rest block parts) ∙ first_stays bytes more some) follows,
  λ found h. other (sym (first_stays bytes more some) ∙ ap (λ (l : List ℕ). get_or l 0 0) h.parts),
)

-- each block that begins with this byte may stand there
pub none_in_front : (offset : ℕ) (bytes : List ℕ) → ((b : Block) → kind_of b ≡ get_or bytes 0 0 → MayStandAt offset b)
    → IsUnfit (reading_at offset bytes) (bad_exec offset) → NoneInFront bytes
none_in_front offset bytes stands unfit = record {
  none = λ b front more parts block. unfit.1 b front more parts block (stands b (sym (kind_first b bytes front more block parts)));
  known = unfit.2;
}

pub first_kind : (offset kind : ℕ) → kind ≢ 1 → offset ≡ 0 → (b : Block) → kind_of b ≡ kind → MayStandAt offset b → ⊥
first_kind offset kind other start b is stands = other (sym is ∙ ap kind_of (stands start))

pub other_kind : (offset kind : ℕ) → kind ≢ 1 → kind ≢ 0x10 → kind ≢ 0x11 → (b : Block) → kind_of b ≡ kind → MayStandAt offset b → ⊥
other_kind offset kind no_header no_session no_class header is stands = no_header (sym is)
other_kind offset kind no_header no_session no_class (session s) is stands = no_session (sym is)
other_kind offset kind no_header no_session no_class (class c) is stands = no_class (sym is)

pub header_stands : (offset kind : ℕ) → kind ≡ 1 → (b : Block) → kind_of b ≡ kind → MayStandAt offset b
header_stands offset kind first header is = λ start. refl
header_stands offset kind first (session s) is = absurd (omega (arith, is, first))
header_stands offset kind first (class c) is = absurd (omega (arith, is, first))

pub later_stands : (offset : ℕ) → offset ≢ 0 → (b : Block) → MayStandAt offset b
later_stands offset later b = λ start. absurd (later start)

-- ---- a piece more

nothing_known : (sessions : List Session) (es : Entries) → Keyed es → store_with [] [] sessions es ≡ store_of sessions es
nothing_known sessions es keyed = λ i. record { sessions = sessions; classes = classes_of (insert_none es keyed i) }

pub none_in_nothing : NoneInFront []
none_in_nothing = record { none = λ b front more parts block. no_block b [] front more block parts refl; known = λ found h. no_bytes h.parts }
  where
    no_bytes : {x : ℕ} {l : List ℕ} → [] ≡ x ∷ l → ⊥
    no_bytes e = cc

regrouped : (a b c d : List ℕ) → ((a ++ b) ++ c) ++ d ≡ a ++ ((b ++ c) ++ d)
regrouped a b c d = simp append_assoc

module _ (start : Held) (offset : ℕ) (rest piece : List ℕ) (keyed : Keyed start.records) (before : Store) (bytes : List ℕ)
    (w : Waits before bytes (store_of start.sessions start.records) rest) (size : offset + length rest ≡ length bytes) where
  taken_size : length w.taken ≡ offset
  taken_size = omega (arith, size, ap length w.parts, length-append w.taken rest)

  start_union : IsUnion (blocks_of before ++ w.read) (with_added [] [] start)
  start_union = subst (IsUnion (blocks_of before ++ w.read)) (sym (nothing_known start.sessions start.records keyed)) w.union

  more_parts : (more : List ℕ) → (bytes ++ piece) ++ more ≡ w.taken ++ ((rest ++ piece) ++ more)
  more_parts more = ap (λ (l : List ℕ). (l ++ piece) ++ more) w.parts ∙ regrouped w.taken rest piece more

  -- the blocks that were read, and what stands behind them
  pub waits_on : (taken left : List ℕ) (new : Held) → rest ++ piece ≡ taken ++ left → Adds [] offset taken start new → NoneInFront left
      → Waits before (bytes ++ piece) (store_of new.sessions new.records) left
  waits_on taken left new parts a none = record {
    read = w.read ++ a.read;
    taken = w.taken ++ taken;
    parts = ap (λ (l : List ℕ). l ++ piece) w.parts ∙ append_assoc w.taken rest piece ∙ ap (λ (l : List ℕ). w.taken ++ l) parts ∙ sym (append_assoc w.taken taken left);
    blocks = added_blocks [] offset start [] before w.taken w.read w.blocks taken_size start_union taken new a;
    union = subst (IsUnion (blocks_of before ++ (w.read ++ a.read))) (nothing_known new.sessions new.records a.keyed)
        (added_union [] offset start [] before w.taken w.read w.blocks taken_size start_union taken new a);
    unfinished = none;
  }

  -- all of the bytes are blocks
  pub waits_for_none : (new : Held) → Adds [] offset (rest ++ piece) start new
      → Waits before (bytes ++ piece) (store_of new.sessions new.records) []
  waits_for_none new a = waits_on (rest ++ piece) [] new (sym (append-nil (rest ++ piece))) a none_in_nothing

  refused_on : (more : List ℕ) (why : ExecRefusal) → FirstRefusal before (w.taken ++ ((rest ++ piece) ++ more)) (why_of why)
      → FirstRefusal before ((bytes ++ piece) ++ more) (why_of why)
  refused_on more why = subst (λ (l : List ℕ). FirstRefusal before l (why_of why)) (sym (more_parts more))

  -- a class block is refused with whatever behind it
  pub clash_lasts : (why : ExecRefusal) → StopsClash [] offset (rest ++ piece) start why → (more : List ℕ) → FirstRefusal before ((bytes ++ piece) ++ more) (why_of why)
  clash_lasts why s more = refused_on more why
      (clash_refused [] offset start [] before w.taken w.read w.blocks taken_size start_union ((rest ++ piece) ++ more) why (record {
        taken = s.taken;
        front = s.front;
        more = s.more ++ more;
        parts = ap (λ (l : List ℕ). l ++ more) s.parts ∙ append_assoc s.taken (s.front ++ s.more) more ∙ ap (λ (l : List ℕ). s.taken ++ l) (append_assoc s.front s.more more);
        reached = s.reached;
        adds = s.adds;
        hits = s.hits;
        block = s.block;
        follows = s.follows;
        refused = s.refused;
      }))

  some_more : (left more : List ℕ) → left ≢ [] → left ++ more ≢ []
  some_more [] more some = absurd (some refl)
  some_more (x ∷ left) more some = λ e. cc

  -- what is unfit with whatever behind it is refused so
  pub unfit_lasts : (new : Held) (why : ExecRefusal) (s : StopsUnfit [] offset (rest ++ piece) start new why)
      → ((more : List ℕ) → IsUnfit (reading_at (offset + length s.taken) (s.left ++ more)) (why_of why))
      → (more : List ℕ) → FirstRefusal before ((bytes ++ piece) ++ more) (why_of why)
  unfit_lasts new why s lasts more = refused_on more why
      (unfit_refused [] offset start [] before w.taken w.read w.blocks taken_size start_union ((rest ++ piece) ++ more) new why (record {
        taken = s.taken;
        left = s.left ++ more;
        parts = ap (λ (l : List ℕ). l ++ more) s.parts ∙ append_assoc s.taken s.left more;
        adds = s.adds;
        some = some_more s.left more s.some;
        unfit = lasts more;
      }))

other_lasts : (left more : List ℕ) (found : ℕ) → HasOtherHeader left found → HasOtherHeader (left ++ more) found
other_lasts left more found h = record {
  version = h.version;
  more = h.more ++ more;
  parts = ap (λ (l : List ℕ). l ++ more) h.parts ∙ ap (λ (l : List ℕ). 0x01 ∷ 0xc0 ∷ 0xc0 ∷ l) (append_assoc h.version h.more more);
  value = h.value;
  other = h.other;
}

-- a refusal that isn't of bytes that are no block lasts
pub other_stop_lasts : (place : ℕ) (left more : List ℕ) (why : ExecRefusal) → ((p : ℕ) → why ≡ BadExec p → ⊥)
    → IsUnfit (reading_at place left) (why_of why) → IsUnfit (reading_at place (left ++ more)) (why_of why)
other_stop_lasts place left more (BadExec p) apart unfit = absurd (apart p refl)
other_stop_lasts place left more (OtherVersion found) apart unfit = other_lasts left more found unfit
other_stop_lasts place left more (Conflict id first second m n) apart unfit = absurd unfit

-- bytes that are no block are unfit
pub bad_is_unfit : (known : Entries) (offset : ℕ) (bytes : List ℕ) (start new : Held) (p : ℕ)
    → StopsUnfit known offset bytes start new (BadExec p) ⊎ StopsClash known offset bytes start (BadExec p) → StopsUnfit known offset bytes start new (BadExec p)
bad_is_unfit known offset bytes start new p (inl s) = s
bad_is_unfit known offset bytes start new p (inr s) = absurd (apart s.refused.2)
  where
    apart : {id m n : ℕ} {first second : List ℕ} → bad_exec p ≡ conflict id first second m n → ⊥
    apart e = cc
