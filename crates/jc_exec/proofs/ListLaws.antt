-- A text is execution data of one list of blocks at most.
use Rattle.std.proofs.Common.{◌≡◌, ℕ, List, [], ◌∷◌, ◌++◌, Some, nat_eq, get_or, refl, sym, ◌∙◌, ap, subst, arith, append_assoc}
use Rattle.std.specs.Int.{w64, cast_signed}
use Rattle.std.proofs.lemmas.Bool.{eqb-true}
use Rattle.std.proofs.lemmas.List.{append-nil, append_cancel_left}
use Rattle.std.proofs.lemmas.Option.{same_Some}
use Rattle.byteorder.specs.Endian.{big_number}
use Rattle.jc_bytes.specs.Decoder.{byte_at, number_at}
use Rattle.jc_bytes.specs.Modified.{IsModified}
use Rattle.jc_bytes.proofs.DecoderLaws.{bind_some, guard_some, number_takes, number_again, byte_takes, byte_again}
use Rattle.jc_exec.specs.declared.session.Session.{Session}
use Rattle.jc_exec.specs.declared.hits.ClassHits.{ClassHits}
use Rattle.jc_exec.specs.Format.{Block, header, session, class, header_text, SessionParts, session_joined, SpellsSession, IsSessionBlock, IsBlock, AreBlocks, Blocks}
use Rattle.jc_exec.specs.Reading.{text_at, class_at, session_at}
use Rattle.jc_exec.proofs.BlockLaws.{text_takes, text_again, class_again}

-- ---- a session in front

session_regrouped : (p : SessionParts) (rest : List ℕ) → session_joined p ++ rest ≡ 0x10 ∷ (p.size ++ (p.id ++ (p.start ++ (p.dump ++ rest))))
session_regrouped p rest = simp append_assoc

session_parts_again : (p : SessionParts) (s : Session) (rest : List ℕ) → SpellsSession p s → session_at (0x10 ∷ (p.size ++ (p.id ++ (p.start ++ (p.dump ++ rest))))) ≡ Some (s, rest)
unfolding session_at
session_parts_again p s rest spells =
    rw (
      byte_again 0x10 (p.size ++ (p.id ++ (p.start ++ (p.dump ++ rest)))),
      spells.id,
      text_again p.size s.id (p.start ++ (p.dump ++ rest)) spells.size,
      number_again 8 p.start (p.dump ++ rest) (big_number 8 p.start) (record { size = spells.start.size; value = refl }),
      number_again 8 p.dump rest (big_number 8 p.dump) (record { size = spells.dump.size; value = refl }),
    )
    (λ i. Some (record { id = s.id; start = spells.start.value i; dump = spells.dump.value i }, rest))

pub session_again : (text rest : List ℕ) (s : Session) → IsSessionBlock text s → session_at (text ++ rest) ≡ Some (s, rest)
session_again text rest s block = ap (λ (l : List ℕ). session_at (l ++ rest)) block.1 ∙ ap session_at (session_regrouped block.0 rest) ∙ session_parts_again block.0 s rest block.2

-- a session block but for its id, which may be no modified UTF-8, stood in front
pub record TookSession (left : List ℕ) (s : Session) (rest : List ℕ) : Type 0 where
  pub text : List ℕ
  pub parts : left ≡ text ++ rest
  pub block : IsModified s.id → IsSessionBlock text s

took_session : (left a b c rest : List ℕ) (p : SessionParts) (s : Session) → left ≡ 0x10 ∷ a → a ≡ p.size ++ (p.id ++ b) → b ≡ p.start ++ c
    → c ≡ p.dump ++ rest → (IsModified s.id → SpellsSession p s) → TookSession left s rest
took_session left a b c rest p s tag id start dump spells = record { text = session_joined p; parts = rw (tag, id, start, dump) (simp append_assoc); block = λ text. (p, refl, spells text) }

-- what is read as a session block is one
pub session_takes : (left : List ℕ) (read : Session × List ℕ) → session_at left ≡ Some read → TookSession left read.0 read.1
unfolding session_at
session_takes left read e =
    let kind = bind_some (byte_at left) _ read e in
    let tag = guard_some (nat_eq kind.0.0 0x10) _ read kind.2 in
    let id = bind_some (text_at kind.0.1) _ read tag.1 in
    let start = bind_some (number_at 8 id.0.1) _ read id.2 in
    let dump = bind_some (number_at 8 start.0.1) _ read start.2 in
    let kind_is = byte_takes left kind.0.0 kind.0.1 kind.1 in
    let id_is = text_takes kind.0.1 id.0.0 id.0.1 id.1 in
    let start_is = number_takes 8 id.0.1 start.0.0 start.0.1 start.1 in
    let dump_is = number_takes 8 start.0.1 dump.0.0 dump.0.1 dump.1 in
    subst (λ (r : Session × List ℕ). TookSession left r.0 r.1) (same_Some _ read dump.2)
    (took_session left kind.0.1 id.0.1 start.0.1 dump.0.1
    (record { size = id_is.0; id = id.0.0; start = start_is.0; dump = dump_is.0 })
    (record { id = id.0.0; start = cast_signed w64 start.0.0; dump = cast_signed w64 dump.0.0 })
    (kind_is ∙ ap (λ (b : ℕ). b ∷ kind.0.1) (eqb-true kind.0.0 0x10 tag.0)) id_is.1 start_is.1 dump_is.1
    (λ text. record {
      size = id_is.2;
      id = refl;
      text = text;
      start = record { size = start_is.2.size; value = ap (cast_signed w64) start_is.2.value };
      dump = record { size = dump_is.2.size; value = ap (cast_signed w64) dump_is.2.value };
    }))

-- ---- a block in front

-- the byte that says its kind
abbrev pub kind_of : Block → ℕ
kind_of header = 0x01
kind_of (session s) = 0x10
kind_of (class c) = 0x11

pub kind_first : (b : Block) (text front rest : List ℕ) → IsBlock front b → text ≡ front ++ rest → get_or text 0 0 ≡ kind_of b
kind_first header text front rest block parts = ap (λ (l : List ℕ). get_or l 0 0) (parts ∙ ap (λ (l : List ℕ). l ++ rest) block)
kind_first (session s) text front rest block parts = ap (λ (l : List ℕ). get_or l 0 0) (parts ∙ ap (λ (l : List ℕ). l ++ rest) block.1)
kind_first (class c) text front rest block parts = ap (λ (l : List ℕ). get_or l 0 0) (parts ∙ ap (λ (l : List ℕ). l ++ rest) block.1)

pub one_front : (a b : Block) (text front rest other later : List ℕ) → IsBlock front a → IsBlock other b → text ≡ front ++ rest → text ≡ other ++ later → (a ≡ b) × (rest ≡ later)
one_front a b text front rest other later x y p q = by a b x y (sym (kind_first a text front rest x p) ∙ kind_first b text other later y q)
  where
    by : (a b : Block) → IsBlock front a → IsBlock other b → kind_of a ≡ kind_of b → (a ≡ b) × (rest ≡ later)
    by header header x y kinds = (refl, append_cancel_left header_text rest later (sym (p ∙ ap (λ (l : List ℕ). l ++ rest) x) ∙ q ∙ ap (λ (l : List ℕ). l ++ later) y))
    by header (session s) x y kinds = absurd (omega (arith, kinds))
    by header (class c) x y kinds = absurd (omega (arith, kinds))
    by (session s) header x y kinds = absurd (omega (arith, kinds))
    by (session s) (session t) x y kinds =
        let same = same_Some (s, rest) (t, later) (sym (session_again front rest s x) ∙ ap session_at (sym p ∙ q) ∙ session_again other later t y) in
        (ap (λ (r : Session × List ℕ). session r.0) same, ap (λ (r : Session × List ℕ). r.1) same)
    by (session s) (class c) x y kinds = absurd (omega (arith, kinds))
    by (class c) header x y kinds = absurd (omega (arith, kinds))
    by (class c) (session s) x y kinds = absurd (omega (arith, kinds))
    by (class c) (class d) x y kinds =
        let same = same_Some (c, rest) (d, later) (sym (class_again front rest c x) ∙ ap class_at (sym p ∙ q) ∙ class_again other later d y) in
        (ap (λ (r : ClassHits × List ℕ). class r.0) same, ap (λ (r : ClassHits × List ℕ). r.1) same)

pub no_block : (b : Block) (text front rest : List ℕ) → IsBlock front b → text ≡ front ++ rest → text ≡ [] → ⊥
no_block b text front rest block parts none = some b (sym (kind_first b text front rest block parts) ∙ ap (λ (l : List ℕ). get_or l 0 0) none)
  where
    some : (b : Block) → kind_of b ≡ 0 → ⊥
    some header e = omega (arith, e)
    some (session s) e = omega (arith, e)
    some (class c) e = omega (arith, e)

-- ---- a block more

pub blocks_push : (text : List ℕ) (bs : List Block) (front : List ℕ) (b : Block) → AreBlocks text bs → IsBlock front b
    → AreBlocks (text ++ front) (bs ++ b ∷ [])
blocks_push text [] front b none block = (front, [], ap (λ (l : List ℕ). l ++ front) none ∙ sym (append-nil front), block, refl)
blocks_push text (x ∷ bs) front b a block = (a.0, a.1 ++ front, ap (λ (l : List ℕ). l ++ front) a.2 ∙ append_assoc a.0 a.1 front, a.3, blocks_push a.1 bs front b a.4 block)

-- ---- one list

same_blocks : (text : List ℕ) (xs ys : List Block) → AreBlocks text xs → AreBlocks text ys → xs ≡ ys
same_blocks text [] [] a b = refl
same_blocks text (x ∷ xs) [] a b = absurd (no_block x text a.0 a.1 a.3 a.2 b)
same_blocks text [] (y ∷ ys) a b = absurd (no_block y text b.0 b.1 b.3 b.2 a)
same_blocks text (x ∷ xs) (y ∷ ys) a b =
    let same = one_front x y text a.0 a.1 b.0 b.1 a.3 b.3 a.2 b.2 in
    let rest = same_blocks a.1 xs ys a.4 (subst (λ (l : List ℕ). AreBlocks l ys) (sym same.1) b.4) in
    λ i. same.0 i ∷ rest i

pub one_list : (text : List ℕ) (xs ys : List Block) → Blocks text xs → Blocks text ys → xs ≡ ys
one_list text xs ys a b = same_blocks text xs ys a.whole b.whole
