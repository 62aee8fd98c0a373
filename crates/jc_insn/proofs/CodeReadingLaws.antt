-- Instructions that are read one after the other.
use Rattle.std.proofs.Common.{◌≡◌, Ok, Err, ℕ, ◌+◌, ◌<◌, ◌≤◌, List, [], ◌∷◌, ◌++◌, length, Some, All, refl, sym, ◌∙◌, ap, subst, arith, append_assoc, length-append}
use Rattle.std.proofs.lemmas.List.{append-nil}
use Rattle.std.proofs.lemmas.List.Elements.{All-push, All-nil}
use Rattle.jc_bytes.specs.Reader.{Reading}
use Rattle.jc_bytes.specs.Decoder.{SameEnd}
use Rattle.jc_bytes.specs.declared.refusal.Refusal.{Refusal}
use Rattle.jc_bytes.specs.declared.refusal.RefusalKind.{RefusalKind}
use Rattle.jc_bytes.specs.declared.refusal.RefusalKind.TheVariants as kinds
use Rattle.jc_methods.specs.declared.insn.Insn.{Insn}
use Rattle.jc_insn.specs.declared.item.CodeItem.{CodeItem}
use Rattle.jc_insn.specs.declared.item.CodeItem.TheVariants as items
use Rattle.jc_insn.specs.Items.{IsItem}
use Rattle.jc_insn.specs.Reading.{item_at}
use Rattle.jc_insn.specs.Spells.{SpellsFrom, IsFault, FaultBehind}
use Rattle.jc_bytes.specs.declared.fail.Fail.{Fail}
use Rattle.jc_bytes.specs.declared.fail.Fail.TheVariants as fails
use Rattle.jc_bytes.proofs.OptionLaws.{some_none}
use Rattle.jc_insn.specs.Decoding.{Stops, Refuses, GivesNext}
use Rattle.jc_insn.proofs.ItemReadingLaws.{reads_item}

-- an item has an opcode
pub some_bytes : (at : ℕ) (text : List ℕ) (item : CodeItem) → IsItem at text item → 1 ≤ length text
unfolding IsItem
some_bytes at text item is = let e = ap length is.parts ∙ length-append is.front is.rest in let one = ap length is.field in omega (arith, e, one)

-- what is left completes what was read: the instructions so far and the rest spell the whole
pub record Progress (bytes : List ℕ) (reader : Reading) (code : List Insn) (starts : List ℕ) : Type 0 where
  pub spelled : (more : List Insn) (later : List ℕ) → SpellsFrom reader.place reader.left more later → SpellsFrom 0 bytes (code ++ more) (starts ++ later)
  pub fault : (more : List Insn) (kind : RefusalKind) (place : ℕ) → FaultBehind reader.place reader.left more kind place
      → FaultBehind 0 bytes (code ++ more) kind place
  pub whole : reader.place + length reader.left ≡ length bytes
  pub within : All (λ start. start < length bytes + 1) starts
  pub count : length starts ≡ length code
  pub few : length code ≤ reader.place

pub begins : (bytes : List ℕ) (reader : Reading) (code : List Insn) (starts : List ℕ) → reader.left ≡ bytes → reader.place ≡ 0 → code ≡ [] → starts ≡ []
    → Progress bytes reader code starts
begins bytes reader code starts left place no_code no_starts = record {
  spelled = λ more later s. begin_spelled more later s;
  fault = λ more kind at f. begin_fault more kind at f;
  whole = let e = ap length left in omega (arith, e, place);
  within = subst (All (λ start. start < length bytes + 1)) (sym no_starts) (All-nil (λ start. start < length bytes + 1));
  count = ap length no_starts ∙ sym (ap length no_code);
  few = let e = ap length no_code in omega (arith, e);
}
  where
    begin_spelled : (more : List Insn) (later : List ℕ) → SpellsFrom reader.place reader.left more later → SpellsFrom 0 bytes (code ++ more) (starts ++ later)
    begin_spelled more later s = rw (no_code, no_starts) (rw (left, place) at s)

    begin_fault : (more : List Insn) (kind : RefusalKind) (at : ℕ) → FaultBehind reader.place reader.left more kind at
        → FaultBehind 0 bytes (code ++ more) kind at
    begin_fault more kind at f = rw no_code (rw (left, place) at f)

-- the item that was read, and the offset behind it
record Taken (reader after : Reading) (item : CodeItem) : Type 0 where
  text : List ℕ
  parts : reader.left ≡ text ++ after.left
  is : IsItem reader.place text item
  place : after.place ≡ reader.place + length text
  some : 1 ≤ length text

taken : (reader after : Reading) (item : CodeItem) → item_at reader.place reader.left ≡ Some (item, after.left) → SameEnd reader after → Taken reader after item
taken reader after item read end =
    let t = (reads_item reader.place).takes reader.left item after.left read in
    let e = ap length t.1 ∙ length-append t.0 after.left in
    record { text = t.0; parts = t.1; is = t.2; place = omega (arith, e, end); some = some_bytes reader.place t.0 item t.2 }

pub less_left : (reader after : Reading) (insn : Insn) → GivesNext (Ok insn) reader after → SameEnd reader after → length after.left < length reader.left
less_left reader after insn read end =
    let t = taken reader after (items.Insn insn) read end in
    let e = ap length t.parts ∙ length-append t.text after.left in
    omega (arith, e, t.some)

one_more : {X : Type 0} (xs ys more : List X) (x : X) → ys ≡ xs ++ x ∷ [] → xs ++ x ∷ more ≡ ys ++ more
one_more xs ys more x e = sym (append_assoc xs (x ∷ []) more) ∙ ap (λ l. l ++ more) (sym e)

pub goes_on : (bytes : List ℕ) (reader after : Reading) (code code' : List Insn) (starts starts' : List ℕ) (insn : Insn) (start : ℕ)
    → Progress bytes reader code starts → GivesNext (Ok insn) reader after → SameEnd reader after → code' ≡ code ++ insn ∷ [] → start ≡ reader.place
    → starts' ≡ starts ++ start ∷ []
    → Progress bytes after code' starts'
goes_on bytes reader after code code' starts starts' insn start so_far read end code_is start_is starts_is =
    let t = taken reader after (items.Insn insn) read end in
    let left = ap length t.parts ∙ length-append t.text after.left in
    let more_code = ap length code_is ∙ length-append code (insn ∷ []) in
    let more_starts = ap length starts_is ∙ length-append starts (start ∷ []) in
    record {
      spelled = λ more later s. spelled t more later s;
      fault = λ more kind place f. fault t more kind place f;
      whole = omega (arith, end, so_far.whole);
      within = subst (All (λ start. start < length bytes + 1)) (sym starts_is)
          (All-push (λ start. start < length bytes + 1) starts start so_far.within (omega (arith, start_is, so_far.whole)));
      count = omega (arith, more_code, more_starts, so_far.count);
      few = omega (arith, more_code, so_far.few, t.place, t.some);
    }
  where
    spelled : Taken reader after (items.Insn insn) → (more : List Insn) (later : List ℕ) → SpellsFrom after.place after.left more later
        → SpellsFrom 0 bytes (code' ++ more) (starts' ++ later)
    spelled t more later s =
        let whole = so_far.spelled (insn ∷ more) (start ∷ later) (
          t.text,
          after.left,
          later,
          t.parts,
          ap (λ (p : ℕ). p ∷ later) start_is,
          t.is,
          subst
              (λ (p : ℕ). SpellsFrom p after.left more later) t.place s,
        ) in
        subst (λ (l : List ℕ). SpellsFrom 0 bytes (code' ++ more) l) (one_more starts starts' later start starts_is)
        (subst (λ (l : List Insn). SpellsFrom 0 bytes l (starts ++ start ∷ later)) (one_more code code' more insn code_is) whole)

    fault : Taken reader after (items.Insn insn) → (more : List Insn) (kind : RefusalKind) (place : ℕ)
        → FaultBehind after.place after.left more kind place → FaultBehind 0 bytes (code' ++ more) kind place
    fault t more kind place f =
        subst (λ (l : List Insn). FaultBehind 0 bytes l kind place) (one_more code code' more insn code_is)
        (so_far.fault (insn ∷ more) kind place (t.text, after.left, t.parts, t.is, subst (λ (p : ℕ). FaultBehind p after.left more kind place) t.place f))

-- at the end of the bytes the instructions are whole
pub finishes : (bytes : List ℕ) (reader : Reading) (code : List Insn) (starts starts' : List ℕ) (start : ℕ) → Progress bytes reader code starts
    → length bytes ≤ reader.place → start ≡ reader.place → starts' ≡ starts ++ start ∷ [] → SpellsFrom 0 bytes code starts'
finishes bytes reader code starts starts' start so_far end start_is starts_is =
    let none : length reader.left ≡ 0 = omega (arith, so_far.whole, end) in
    rw starts_is (subst (λ (l : List Insn). SpellsFrom 0 bytes l (starts ++ start ∷ [])) (append-nil code)
    (so_far.spelled [] (start ∷ []) (empty reader.left none, ap (λ (p : ℕ). p ∷ []) start_is)))
  where
    empty : (l : List ℕ) → length l ≡ 0 → l ≡ []
    empty [] e = refl
    empty (x ∷ l) e = absurd (omega (arith, e))

-- what stands at the offset is at fault
stops : (reader : Reading) (kind : RefusalKind) → 0 < length reader.left → Stops kind (item_at reader.place reader.left) → IsFault reader.place reader.left kind
stops reader kinds.Subroutine some (rest, read) = let t = (reads_item reader.place).takes reader.left items.Subroutine rest read in (t.0, rest, t.1, t.2)
stops reader kinds.BadCode some none = record {
  some = λ empty. let e = ap length empty in absurd (omega (arith, e, some));
  none = λ text rest item parts is. some_none (sym ((reads_item reader.place).again text rest item is) ∙ ap (item_at reader.place) (sym parts) ∙ none);
}
stops reader kind some stop = absurd stop

pub refuses : (bytes : List ℕ) (reader after : Reading) (code : List Insn) (starts : List ℕ) (e : Fail Refusal) → Progress bytes reader code starts
    → reader.place < length bytes → GivesNext (Err e) reader after → Refuses e bytes
refuses bytes reader after code starts fails.Memory so_far below stop = tt
refuses bytes reader after code starts (fails.Said refusal) so_far below (method, place, stop) = record {
  method = method;
  before = code ++ [];
  fault = so_far.fault [] refusal.kind refusal.place (place, stops reader refusal.kind (omega (arith, so_far.whole, below)) stop);
}
