-- What is read from bytes fits the format.
use Rattle.std.proofs.Common.{◌≡◌, ℕ, ◌^◌, ◌<◌, ℤ, w64, List, [], ◌∷◌, ◌++◌, length, FitsSigned, sym, subst, arith, get_or}
use Rattle.std.specs.List.{AllByRecursion}
use Rattle.std.proofs.lemmas.List.Elements.{All-contains, All-from_recursion, recursion_from_All, Contains-get_or}
use Rattle.std.proofs.Math.Facts.{sfits_to_z}
use Rattle.byteorder.specs.Numbers.{big_from-lt}
use Rattle.jc_bytes.specs.ByteLists.{AreBytes}
use Rattle.jc_bytes.specs.Modified.{IsModified}
use Rattle.jc_bytes.proofs.EachLaws.{all_both}
use Rattle.jc_bytes.proofs.OneTextLaws.{byte_at, both_bytes, big_below}
use Rattle.jc_exec.specs.declared.hits.ClassHits.{ClassHits}
use Rattle.jc_exec.specs.declared.session.Session.{Session}
use Rattle.jc_exec.specs.Format.{Block, header, session, class, IsTime, IsSessionBlock, IsClassBlock, IsBlock, AreBlocks}
use Rattle.jc_exec.specs.Groups.{BlocksOfAll}
use Rattle.jc_exec.specs.Store.{Store, IsWritable, IsWritableClass}
use Rattle.jc_exec.specs.Union.{sessions_of, records_of, Agrees, IsUnion}
use Rattle.jc_exec.specs.Writing.{FitsFormat}
use Rattle.jc_exec.proofs.UnionLaws.{sessions-append, records-append, merged_of}

-- ---- one block

time_fits : (bytes : List ℕ) (t : ℤ) → AreBytes bytes → IsTime bytes t → FitsSigned w64 t
time_fits bytes t are is = subst (FitsSigned w64) is.value (sfits_to_z {w = w64} record { fits = big_from-lt 0 8 bytes (byte_at bytes are) })

session_fits : (text : List ℕ) (s : Session) → AreBytes text → IsSessionBlock text s → IsWritable s
session_fits text s are (p, e, is) =
    let size = both_bytes p.size (p.id ++ (p.start ++ p.dump)) (subst AreBytes e are).1 in
    let id = both_bytes p.id (p.start ++ p.dump) size.1 in
    let times = both_bytes p.start p.dump id.1 in
    record {
      size = big_below 2 (length s.id) p.size size.0 is.size;
      text = is.text;
      start = time_fits p.start s.start times.0 is.start;
      dump = time_fits p.dump s.dump times.1 is.dump;
    }

class_fits : (text : List ℕ) (c : ClassHits) → AreBytes text → IsClassBlock text c → IsWritableClass c
class_fits text c are (p, e, is) =
    let id = both_bytes p.id (p.size ++ (p.name ++ (p.count ++ p.bits))) (subst AreBytes e are).1 in
    let size = both_bytes p.size (p.name ++ (p.count ++ p.bits)) id.1 in
    let small = is.small in (
      record { id = big_below 8 c.id p.id id.0 is.id; name = big_below 2 (length c.name) p.size size.0 is.size; bits = omega (arith, small) },
      is.text,
    )

-- ---- many blocks

abbrev pub AllFit : List Block → Type 0
AllFit bs = AllByRecursion IsWritable (sessions_of bs) × AllByRecursion IsWritableClass (records_of bs)

blocks_fit : (text : List ℕ) (bs : List Block) → AreBytes text → AreBlocks text bs → AllFit bs
blocks_fit text [] are is = (tt, tt)
blocks_fit text (b ∷ bs) are (front, rest, e, block, more) =
    let parts = both_bytes front rest (subst AreBytes e are) in
    by b block (blocks_fit rest bs parts.1 more)
  where
    by : (b : Block) → IsBlock front b → AllFit bs → AllFit (b ∷ bs)
    by header block fit = fit
    by (session s) block fit = ((session_fits front s (both_bytes front rest (subst AreBytes e are)).0 block, fit.0), fit.1)
    by (class c) block fit = (fit.0, (class_fits front c (both_bytes front rest (subst AreBytes e are)).0 block, fit.1))

both_fit : (bs ds : List Block) → AllFit bs → AllFit ds → AllFit (bs ++ ds)
both_fit bs ds a b = (
  subst (AllByRecursion IsWritable) (sym (sessions-append bs ds)) (all_both IsWritable (sessions_of bs) (sessions_of ds) a.0 b.0),
  subst (AllByRecursion IsWritableClass) (sym (records-append bs ds)) (all_both IsWritableClass (records_of bs) (records_of ds) a.1 b.1),
)

texts_fit : (texts : List (List ℕ)) (read : List Block) → AllByRecursion AreBytes texts → BlocksOfAll texts read → AllFit read
texts_fit [] read are e = subst AllFit (sym e) (tt, tt)
texts_fit (t ∷ ts) read are (front, rest, e, is, more) =
    subst AllFit (sym e) (both_fit front rest (blocks_fit t front are.0 is.whole) (texts_fit ts rest are.1 more))

-- ---- their union

writable_alike : (r c : ClassHits) → r.id ≡ c.id → Agrees r c → IsWritableClass r → IsWritableClass c
writable_alike r c id a w =
    let bits = w.0.bits in
    let count = a.count in (
      record {
        id = subst (λ (n : ℕ). n < 2 ^ 64) id w.0.id;
        name = subst (λ (l : List ℕ). length l < 65536) a.name w.0.name;
        bits = omega (arith, bits, count);
      },
      subst IsModified a.name w.1,
    )

pub union_fits : (texts : List (List ℕ)) (read : List Block) (s : Store) → AllByRecursion AreBytes texts → BlocksOfAll texts read → IsUnion read s → FitsFormat s
union_fits texts read s are blocks u =
    let fit = texts_fit texts read are blocks in
    record {
      sessions = subst (AllByRecursion IsWritable) (sym u.sessions) fit.0;
      classes = recursion_from_All IsWritableClass s.classes (λ k d lt.
          let c = get_or s.classes k d in
          let m = merged_of read s c u (Contains-get_or s.classes k d lt) in
          let r = m.1.0 in
          writable_alike r c m.1.2 (m.0.agrees r m.1.1 m.1.2)
          (All-contains IsWritableClass (records_of read) r (All-from_recursion IsWritableClass (records_of read) fit.1) m.1.1));
    }
