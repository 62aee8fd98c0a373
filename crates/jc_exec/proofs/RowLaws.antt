-- Records and sessions whose texts stand in one list of bytes.
use Rattle.std.proofs.Common.{◌≡◌, ℕ, zero, suc, ◌+◌, ◌-◌, ◌<◌, ◌≤◌, Bool, List, [], ◌∷◌, ◌++◌, length, take, drop, get_or, Result, Ok, Err, OnErr, refl, sym, ◌∙◌, ap, arith, length-append}
use Rattle.std.specs.List.{slice_range}
use Rattle.std.proofs.Math.ListN.{set}
use Rattle.std.proofs.Math.Seq.{drop-append-add, drop-append_seam, take-append_seam}
use Rattle.std.proofs.lemmas.List.{take-append-drop, drop-append-le, take-append-le, append-nil, length-take, length-drop, drop-drop, map-append}
use Rattle.jc_exec.specs.declared.hits.ClassHits.{ClassHits}
use Rattle.jc_exec.specs.declared.packed_records.Row.{Row}
use Rattle.jc_exec.specs.declared.packed_sessions.SessionRow.{SessionRow}
use Rattle.jc_exec.specs.declared.session.Session.{Session}
use Rattle.jc_exec.specs.Packed.{unpack, packed}
use Rattle.jc_exec.specs.Places.{IsFront}
use Rattle.jc_exec.specs.Rows.{part, with_part, bits_from, bits_size, end_of, hits_at, hits_of, AreLaid, session_at, sessions_in, IsInside, AreInside}
use Rattle.jc_exec.proofs.PackedLaws.{made_seen}

-- ---- a part of some bytes

-- the bytes between two places
pub slice_part : (bytes : List ℕ) (from end size : ℕ) → end ≡ from + size → slice_range bytes from end ≡ part bytes from size
slice_part bytes from end size is = ap (λ (n : ℕ). take n (drop from bytes)) (omega (arith, is))

-- what a write between two places leaves
pub put_part : (bytes p : List ℕ) (from end : ℕ) → end ≡ from + length p → take from bytes ++ (p ++ drop (end - from) (drop from bytes)) ≡ with_part bytes from p
put_part bytes p from end is =
    let n : end - from ≡ length p = omega (arith, is) in
    ap (λ (k : ℕ). take from bytes ++ (p ++ drop k (drop from bytes))) n ∙ ap (λ (l : List ℕ). take from bytes ++ (p ++ l)) (drop-drop (length p) from bytes)

part_front : (a b : List ℕ) (from size : ℕ) → from + size ≤ length a → part (a ++ b) from size ≡ part a from size
part_front a b from size le =
    ap (take size) (drop-append-le from a b (omega (arith, le)))
    ∙ take-append-le size (drop from a) b (omega (arith, le, length-drop from a))

part_before : (bytes p : List ℕ) (at from size : ℕ) → from + size ≤ at → at ≤ length bytes → part (with_part bytes at p) from size ≡ part bytes from size
part_before bytes p at from size le room =
    let short : from + size ≤ length (take at bytes) = omega (arith, le, room, length-take at bytes) in
    part_front (take at bytes) (p ++ drop (at + length p) bytes) from size short
    ∙ sym (part_front (take at bytes) (drop at bytes) from size short)
    ∙ ap (λ (l : List ℕ). part l from size) (take-append-drop at bytes)

-- what stands behind what was put
behind_part : (bytes p : List ℕ) (at n : ℕ) → at ≤ length bytes → drop (at + (length p + n)) (with_part bytes at p) ≡ drop n (drop (at + length p) bytes)
behind_part bytes p at n room =
    let rest = drop (at + length p) bytes in
    let front : length (take at bytes) ≡ at = omega (arith, room, length-take at bytes) in
    ap (λ (k : ℕ). drop (k + (length p + n)) (take at bytes ++ (p ++ rest))) (sym front)
    ∙ drop-append-add (take at bytes) (p ++ rest) (length p + n)
    ∙ drop-append-add p rest n

part_behind : (bytes p : List ℕ) (at from size : ℕ) → at + length p ≤ from → at ≤ length bytes → part (with_part bytes at p) from size ≡ part bytes from size
part_behind bytes p at from size le room =
    let n = from - (at + length p) in
    let is : from ≡ at + (length p + n) = omega (arith, le) in
    let same : (at + length p) + n ≡ from = omega (arith, le) in
    ap (take size) (ap (λ (k : ℕ). drop k (with_part bytes at p)) is ∙ behind_part bytes p at n room
    ∙ drop-drop n (at + length p) bytes ∙ ap (λ (k : ℕ). drop k bytes) same)

part_own : (bytes p : List ℕ) (at : ℕ) → at ≤ length bytes → part (with_part bytes at p) at (length p) ≡ p
part_own bytes p at room =
    let rest = drop (at + length p) bytes in
    let front : length (take at bytes) ≡ at = omega (arith, room, length-take at bytes) in
    ap (take (length p)) (ap (λ (k : ℕ). drop k (take at bytes ++ (p ++ rest))) (sym front) ∙ drop-append_seam (take at bytes) (p ++ rest))
    ∙ take-append_seam p rest

pub with_part_size : (bytes p : List ℕ) (at : ℕ) → at + length p ≤ length bytes → length (with_part bytes at p) ≡ length bytes
with_part_size bytes p at room =
    omega (
      arith,
      room,
      length-append (take at bytes) (p ++ drop (at + length p) bytes),
      length-append p (drop (at + length p) bytes),
      length-take at bytes,
      length-drop (at + length p) bytes,
    )

-- ---- one record

-- the same parts make the same record
same_hits : (bytes later : List ℕ) (id : ℕ) (r : Row) → part later r.from r.name ≡ part bytes r.from r.name
    → part later (bits_from r) (bits_size r) ≡ part bytes (bits_from r) (bits_size r) → hits_at later id r ≡ hits_at bytes id r
same_hits bytes later id r name bits = λ i. record { id = id; name = name i; bits = unpack r.count (bits i) }

pub hits_more : (bytes more : List ℕ) (id : ℕ) (r : Row) → end_of r ≤ length bytes → hits_at (bytes ++ more) id r ≡ hits_at bytes id r
hits_more bytes more id r le = same_hits bytes (bytes ++ more) id r
    (part_front bytes more r.from r.name (omega (arith, le))) (part_front bytes more (bits_from r) (bits_size r) le)

hits_before : (bytes p : List ℕ) (at id : ℕ) (r : Row) → end_of r ≤ at → at ≤ length bytes → hits_at (with_part bytes at p) id r ≡ hits_at bytes id r
hits_before bytes p at id r le room = same_hits bytes (with_part bytes at p) id r
    (part_before bytes p at r.from r.name (omega (arith, le)) room) (part_before bytes p at (bits_from r) (bits_size r) le room)

hits_behind : (bytes p : List ℕ) (at id : ℕ) (r : Row) → at + length p ≤ r.from → at ≤ length bytes → hits_at (with_part bytes at p) id r ≡ hits_at bytes id r
hits_behind bytes p at id r le room = same_hits bytes (with_part bytes at p) id r
    (part_behind bytes p at r.from r.name le room) (part_behind bytes p at (bits_from r) (bits_size r) (omega (arith, le)) room)

-- other bits were put in place of its own
pub hits_own : (bytes : List ℕ) (bits : List Bool) (id : ℕ) (r : Row) → length bits ≡ r.count → length (packed bits) ≡ bits_size r → end_of r ≤ length bytes
    → hits_at (with_part bytes (bits_from r) (packed bits)) id r ≡ record { id = id; name = part bytes r.from r.name; bits = bits }
hits_own bytes bits id r count size room =
    let at : bits_from r ≤ length bytes = omega (arith, room) in
    let own : part (with_part bytes (bits_from r) (packed bits)) (bits_from r) (bits_size r) ≡ packed bits =
    ap (part (with_part bytes (bits_from r) (packed bits)) (bits_from r)) (sym size) ∙ part_own bytes (packed bits) (bits_from r) at in
    let seen = made_seen r.count bits (part (with_part bytes (bits_from r) (packed bits)) (bits_from r) (bits_size r)) own (sym count) in
    let name = part_before bytes (packed bits) (bits_from r) r.from r.name (omega arith) at in
    λ i. record { id = id; name = name i; bits = seen i }

-- a record that was put last
pub hits_last : (bytes : List ℕ) (c : ClassHits) (r : Row) → r.from ≡ length bytes → r.name ≡ length c.name → r.count ≡ length c.bits
    → length (packed c.bits) ≡ bits_size r → hits_at (bytes ++ (c.name ++ packed c.bits)) c.id r ≡ c
hits_last bytes c r from name count size =
    let text = c.name ++ packed c.bits in
    let own : part (bytes ++ text) r.from r.name ≡ c.name =
    (λ i. part (bytes ++ text) (from i) (name i)) ∙ ap (take (length c.name)) (drop-append_seam bytes text) ∙ take-append_seam c.name (packed c.bits) in
    let at : bits_from r ≡ length bytes + (length c.name + 0) = omega (arith, from, name) in
    let behind : drop (bits_from r) (bytes ++ text) ≡ packed c.bits =
    ap (λ (k : ℕ). drop k (bytes ++ text)) at ∙ drop-append-add bytes text (length c.name + 0) ∙ drop-append-add c.name (packed c.bits) 0 in
    let bits : part (bytes ++ text) (bits_from r) (bits_size r) ≡ packed c.bits =
    (λ i. take (sym size i) (behind i)) ∙ ap (take (length (packed c.bits))) (sym (append-nil (packed c.bits))) ∙ take-append_seam (packed c.bits) [] in
    let seen = made_seen r.count c.bits (part (bytes ++ text) (bits_from r) (bits_size r)) bits count in
    λ i. record { id = c.id; name = own i; bits = seen i }

-- ---- records, one behind the other

laid_within : (from end : ℕ) (rows : List Row) → AreLaid from rows end → from ≤ end
laid_within from end [] laid = laid
laid_within from end (r ∷ rows) laid = omega (arith, laid.0, laid_within (end_of r) end rows laid.1)

pub laid_more : (from end later : ℕ) (rows : List Row) → AreLaid from rows end → end ≤ later → AreLaid from rows later
laid_more from end later [] laid le = omega (arith, laid, le)
laid_more from end later (r ∷ rows) laid le = (laid.0, laid_more (end_of r) end later rows laid.1 le)

pub laid_push : (from end later : ℕ) (rows : List Row) (r : Row) → AreLaid from rows end → end ≤ r.from → end_of r ≤ later → AreLaid from (rows ++ r ∷ []) later
laid_push from end later [] r laid at le = (omega (arith, laid, at), le)
laid_push from end later (q ∷ rows) r laid at le = (laid.0, laid_push (end_of q) end later rows r laid.1 at le)

pub laid_at : (from end k : ℕ) (rows : List Row) (d : Row) → AreLaid from rows end → k < length rows
    → (from ≤ (get_or rows k d).from) × (end_of (get_or rows k d) ≤ end)
laid_at from end k [] d laid lt = absurd (omega (arith, lt))
laid_at from end zero (r ∷ rows) d laid lt = (laid.0, laid_within (end_of r) end rows laid.1)
laid_at from end (suc k) (r ∷ rows) d laid lt =
    let rest = laid_at (end_of r) end k rows d laid.1 (omega (arith, lt)) in
    (omega (arith, laid.0, rest.0), rest.1)

pub of_more : (from : ℕ) (bytes more ids : List ℕ) (rows : List Row) → AreLaid from rows (length bytes) → hits_of (bytes ++ more) ids rows ≡ hits_of bytes ids rows
of_more from bytes more ids [] laid = refl
of_more from bytes more [] (r ∷ rows) laid = refl
of_more from bytes more (id ∷ ids) (r ∷ rows) laid =
    let one = hits_more bytes more id r (laid_within (end_of r) (length bytes) rows laid.1) in
    let rest = of_more (end_of r) bytes more ids rows laid.1 in
    λ i. one i ∷ rest i

-- ids behind those of the records do not count
pub of_front : (bytes ids more : List ℕ) (rows : List Row) → length rows ≤ length ids → hits_of bytes (ids ++ more) rows ≡ hits_of bytes ids rows
of_front bytes ids more [] le = refl
of_front bytes [] more (r ∷ rows) le = absurd (omega (arith, le))
of_front bytes (id ∷ ids) more (r ∷ rows) le = ap (λ (l : List ClassHits). hits_at bytes id r ∷ l) (of_front bytes ids more rows (omega (arith, le)))

pub of_take : (bytes ids : List ℕ) (rows : List Row) → hits_of bytes (take (length rows) ids) rows ≡ hits_of bytes ids rows
of_take bytes ids [] = refl
of_take bytes [] (r ∷ rows) = refl
of_take bytes (id ∷ ids) (r ∷ rows) = ap (λ (l : List ClassHits). hits_at bytes id r ∷ l) (of_take bytes ids rows)

pub of_size : (bytes ids : List ℕ) (rows : List Row) → length rows ≤ length ids → length (hits_of bytes ids rows) ≡ length rows
of_size bytes ids [] le = refl
of_size bytes [] (r ∷ rows) le = absurd (omega (arith, le))
of_size bytes (id ∷ ids) (r ∷ rows) le = ap suc (of_size bytes ids rows (omega (arith, le)))

pub of_push : (bytes ids : List ℕ) (rows : List Row) (id : ℕ) (r : Row) → length rows ≡ length ids
    → hits_of bytes (ids ++ id ∷ []) (rows ++ r ∷ []) ≡ hits_of bytes ids rows ++ hits_at bytes id r ∷ []
of_push bytes [] [] id r same = refl
of_push bytes (x ∷ ids) [] id r same = absurd (omega (arith, same))
of_push bytes [] (q ∷ rows) id r same = absurd (omega (arith, same))
of_push bytes (x ∷ ids) (q ∷ rows) id r same = ap (λ (l : List ClassHits). hits_at bytes x q ∷ l) (of_push bytes ids rows id r (omega (arith, same)))

pub of_at : (bytes ids : List ℕ) (rows : List Row) (k : ℕ) (d : ClassHits) (r : Row) → k < length rows → length rows ≤ length ids
    → get_or (hits_of bytes ids rows) k d ≡ hits_at bytes (get_or ids k 0) (get_or rows k r)
of_at bytes ids [] k d r lt le = absurd (omega (arith, lt))
of_at bytes [] (q ∷ rows) k d r lt le = absurd (omega (arith, le))
of_at bytes (id ∷ ids) (q ∷ rows) zero d r lt le = refl
of_at bytes (id ∷ ids) (q ∷ rows) (suc k) d r lt le = of_at bytes ids rows k d r (omega (arith, lt)) (omega (arith, le))

pub ids_front : (bytes ids : List ℕ) (rows : List Row) → length rows ≤ length ids → IsFront ids (hits_of bytes ids rows)
ids_front bytes ids [] le = refl
ids_front bytes [] (r ∷ rows) le = absurd (omega (arith, le))
ids_front bytes (id ∷ ids) (r ∷ rows) le = ap (λ (l : List ℕ). id ∷ l) (ids_front bytes ids rows (omega (arith, le)))

-- records behind what was put stay
of_behind : (bytes p ids : List ℕ) (rows : List Row) (at from : ℕ) → AreLaid from rows (length bytes) → at + length p ≤ from → at ≤ length bytes
    → hits_of (with_part bytes at p) ids rows ≡ hits_of bytes ids rows
of_behind bytes p ids [] at from laid le room = refl
of_behind bytes p [] (r ∷ rows) at from laid le room = refl
of_behind bytes p (id ∷ ids) (r ∷ rows) at from laid le room =
    let one = hits_behind bytes p at id r (omega (arith, le, laid.0)) room in
    let rest = of_behind bytes p ids rows at (end_of r) laid.1 (omega (arith, le, laid.0)) room in
    λ i. one i ∷ rest i

-- other bits were put in place of those of the record at a place
pub of_set : (bytes p ids : List ℕ) (rows : List Row) (from k : ℕ) (r : Row) → AreLaid from rows (length bytes) → k < length rows → length rows ≤ length ids
    → r ≡ get_or rows k r → length p ≡ bits_size r
    → hits_of (with_part bytes (bits_from r) p) ids rows
    ≡ set (hits_of bytes ids rows) k (hits_at (with_part bytes (bits_from r) p) (get_or ids k 0) r)
of_set bytes p ids [] from k r laid lt le is size = absurd (omega (arith, lt))
of_set bytes p [] (q ∷ rows) from k r laid lt le is size = absurd (omega (arith, le))
of_set bytes p (id ∷ ids) (q ∷ rows) from zero r laid lt le is size =
    let within = laid_within (end_of q) (length bytes) rows laid.1 in
    let same : end_of r ≡ end_of q = ap end_of is in
    let rest = of_behind bytes p ids rows (bits_from r) (end_of q) laid.1 (omega (arith, same, size)) (omega (arith, within, same)) in
    λ i. hits_at (with_part bytes (bits_from r) p) id (sym is i) ∷ rest i
of_set bytes p (id ∷ ids) (q ∷ rows) from (suc k) r laid lt le is size =
    let place = laid_at (end_of q) (length bytes) k rows r laid.1 (omega (arith, lt)) in
    let start : r.from ≡ (get_or rows k r).from = ap (λ (x : Row). x.from) is in
    let end : end_of r ≡ end_of (get_or rows k r) = ap end_of is in
    let one = hits_before bytes p (bits_from r) id q (omega (arith, place.0, start)) (omega (arith, place.1, end)) in
    let rest = of_set bytes p ids rows (end_of q) k r laid.1 (omega (arith, lt)) (omega (arith, le)) is size in
    λ i. one i ∷ rest i

-- ---- sessions

pub inside_more : (end later : ℕ) (rows : List SessionRow) → AreInside end rows → end ≤ later → AreInside later rows
inside_more end later [] all le = tt
inside_more end later (r ∷ rows) all le = (omega (arith, all.0, le), inside_more end later rows all.1 le)

pub inside_push : (end : ℕ) (rows : List SessionRow) (r : SessionRow) → AreInside end rows → IsInside end r → AreInside end (rows ++ r ∷ [])
inside_push end [] r all one = (one, tt)
inside_push end (q ∷ rows) r all one = (all.0, inside_push end rows r all.1 one)

pub inside_at : (end k : ℕ) (rows : List SessionRow) (d : SessionRow) → AreInside end rows → k < length rows → IsInside end (get_or rows k d)
inside_at end k [] d all lt = absurd (omega (arith, lt))
inside_at end zero (r ∷ rows) d all lt = all.0
inside_at end (suc k) (r ∷ rows) d all lt = inside_at end k rows d all.1 (omega (arith, lt))

pub sessions_more : (names more : List ℕ) (rows : List SessionRow) → AreInside (length names) rows → sessions_in (names ++ more) rows ≡ sessions_in names rows
sessions_more names more [] all = refl
sessions_more names more (r ∷ rows) all =
    let one = part_front names more r.from r.size all.0 in
    let rest = sessions_more names more rows all.1 in
    λ i. record { id = one i; start = r.start; dump = r.dump } ∷ rest i

-- a session that was put last
session_last : (names own : List ℕ) (s : Session) (r : SessionRow) → own ≡ s.id → r.start ≡ s.start → r.dump ≡ s.dump → r.from ≡ length names
    → r.size ≡ length own → session_at (names ++ own) r ≡ s
session_last names own s r is start dump from size =
    let text : part (names ++ own) r.from r.size ≡ own =
    (λ i. part (names ++ own) (from i) (size i)) ∙ ap (take (length own)) (drop-append_seam names own ∙ sym (append-nil own)) ∙ take-append_seam own [] in
    let id = text ∙ is in
    λ i. record { id = id i; start = start i; dump = dump i }

pub sessions_push : (names own : List ℕ) (rows : List SessionRow) (before : List Session) (s : Session) (r : SessionRow) (later : List ℕ) (rows' : List SessionRow)
    → AreInside (length names) rows → sessions_in names rows ≡ before → later ≡ names ++ own → rows' ≡ rows ++ r ∷ [] → own ≡ s.id
    → r.start ≡ s.start → r.dump ≡ s.dump → r.from ≡ length names → r.size ≡ length own → sessions_in later rows' ≡ before ++ s ∷ []
sessions_push names own rows before s r later rows' inside seen put puts is start dump from size =
    let front = sessions_more names own rows inside ∙ seen in
    let last = session_last names own s r is start dump from size in
    (λ i. sessions_in (put i) (puts i)) ∙ map-append (session_at (names ++ own)) rows (r ∷ []) ∙ (λ i. front i ++ last i ∷ [])

pub all_inside : (end : ℕ) (rows : List SessionRow) → ((k : ℕ) (d : SessionRow) → k < length rows → IsInside end (get_or rows k d)) → AreInside end rows
all_inside end [] all = tt
all_inside end (r ∷ rows) all = (all 0 r (omega arith), all_inside end rows (λ k d lt. all (suc k) d (omega (arith, lt))))

-- what holds, holds after an error
pub holds_on_err : {T E : Type 0} (r : Result T E) (P : Type 0) → P → OnErr r P
holds_on_err (Ok x) P holds = tt
holds_on_err (Err e) P holds = holds
