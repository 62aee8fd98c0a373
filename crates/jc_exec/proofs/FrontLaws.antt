-- The block in front of what is left, as it is read.
use Rattle.std.proofs.Common.{◌≡◌, ℕ, ◌<◌, List, [], ◌∷◌, ◌++◌, ◌↔◌, Bool, true, false, get_or, Option, Some, None, Err, refl, sym, ◌∙◌, ap, subst, arith}
use Rattle.std.specs.Prelude.{IsTrue}
use Rattle.std.proofs.lemmas.Bool.{false≢true}
use Rattle.std.proofs.lemmas.Option.{same_Some}
use Rattle.jc_bytes.specs.declared.fail.Fail.{Fail}
use Rattle.jc_bytes.specs.declared.fail.Fail.TheVariants as fails
use Rattle.jc_bytes.specs.declared.fail.Unfit.{Unfit}
use Rattle.jc_bytes.specs.Decoder.{Gives, SameEnd, first}
use Rattle.jc_bytes.specs.Modified.{IsModified}
use Rattle.jc_bytes.specs.Reader.{Reading}
use Rattle.jc_bytes.proofs.OptionLaws.{some_none}
use Rattle.jc_exec.specs.declared.hits.ClassHits.{ClassHits}
use Rattle.jc_exec.specs.declared.session.Session.{Session}
use Rattle.jc_exec.specs.declared.refusal.ExecRefusal.{ExecRefusal}
use Rattle.jc_exec.specs.declared.refusal.ExecRefusal.TheVariants.{BadExec}
use Rattle.jc_exec.specs.Format.{Block, header, session, class, IsSessionBlock, IsClassBlock, IsBlock}
use Rattle.jc_exec.specs.Front.{MayStandAt, Took, IsUnfit, ReadsFront, IsUnread}
use Rattle.jc_exec.specs.Reading.{class_at, session_at, version_at}
use Rattle.jc_exec.specs.Refusing.{bad_exec, HasOtherHeader}
use Rattle.jc_exec.proofs.BlockLaws.{class_takes, class_again}
use Rattle.jc_exec.proofs.ListLaws.{kind_of, kind_first, session_takes, session_again}
use Rattle.jc_exec.proofs.HeaderLaws.{version_again}

-- ---- what was taken

behind : (offset : ℕ) (b : Block) → 0 < offset → MayStandAt offset b
behind offset b later = λ first. absurd (omega (arith, later, first))

pub took_session : (old new : Reading) (s : Session) → session_at old.left ≡ Some (s, new.left) → IsModified s.id → 0 < old.place → SameEnd old new → Took old new (session s)
took_session old new s read text later end =
    let t = session_takes old.left (s, new.left) read in
    record { front = t.text; parts = t.parts; block = t.block text; follows = behind old.place (session s) later; end = end }

pub took_class : (old new : Reading) (c : ClassHits) → class_at old.left ≡ Some (c, new.left) → IsModified c.name → 0 < old.place → SameEnd old new → Took old new (class c)
took_class old new c read text later end =
    let t = class_takes old.left (c, new.left) read in
    record { front = t.text; parts = t.parts; block = t.block text; follows = behind old.place (class c) later; end = end }

-- ---- what is unfit

-- each block in front has this kind, and none of them may stand there
unfit : (at : Reading) (offset kind : ℕ) → offset ≡ at.place → get_or at.left 0 0 ≡ kind
    → ((b : Block) (front more : List ℕ) → at.left ≡ front ++ more → IsBlock front b → MayStandAt at.place b → kind_of b ≡ kind → ⊥)
    → ((found : ℕ) → HasOtherHeader at.left found → kind ≡ 1 → ⊥) → IsUnfit at (bad_exec offset)
unfit at offset kind here first none other = (
  here,
  λ b front more parts block follows. none b front more parts block follows (sym (kind_first b at.left front more block parts) ∙ first),
  λ found h. other found h (sym first ∙ ap (λ (l : List ℕ). get_or l 0 0) h.parts),
)

pub no_version : (at : Reading) (offset : ℕ) → offset ≡ at.place → get_or at.left 0 0 ≡ 1 → version_at at.left ≡ None → IsUnfit at (bad_exec offset)
no_version at offset here kind none = unfit at offset 1 here kind by (λ found h is. some_none (sym (version_again at.left h.version h.more found h.parts h.value) ∙ none))
  where
    by : (b : Block) (front more : List ℕ) → at.left ≡ front ++ more → IsBlock front b → MayStandAt at.place b → kind_of b ≡ 1 → ⊥
    by header front more parts block follows is =
        some_none (sym (version_again at.left (0x10 ∷ 0x07 ∷ []) more 0x1007 (parts ∙ ap (λ (l : List ℕ). l ++ more) block) (record { size = refl; value = refl })) ∙ none)
    by (session s) front more parts block follows is = omega (arith, is)
    by (class c) front more parts block follows is = omega (arith, is)

pub unfit_session : (at : Reading) (offset : ℕ) → offset ≡ at.place → get_or at.left 0 0 ≡ 0x10
    → ((s : Session) (front more : List ℕ) → at.left ≡ front ++ more → IsSessionBlock front s → ⊥) → IsUnfit at (bad_exec offset)
unfit_session at offset here kind none = unfit at offset 0x10 here kind by (λ found h is. omega (arith, is))
  where
    by : (b : Block) (front more : List ℕ) → at.left ≡ front ++ more → IsBlock front b → MayStandAt at.place b → kind_of b ≡ 0x10 → ⊥
    by header front more parts block follows is = omega (arith, is)
    by (session s) front more parts block follows is = none s front more parts block
    by (class c) front more parts block follows is = omega (arith, is)

pub no_session : (at : Reading) (offset : ℕ) → offset ≡ at.place → get_or at.left 0 0 ≡ 0x10 → session_at at.left ≡ None → IsUnfit at (bad_exec offset)
no_session at offset here kind none = unfit_session at offset here kind (λ s front more parts block. some_none (sym (session_again front more s block) ∙ sym (ap session_at parts) ∙ none))

-- the id of the session is no modified UTF-8
pub no_id : (at : Reading) (offset : ℕ) (read : Session × List ℕ) → offset ≡ at.place → get_or at.left 0 0 ≡ 0x10 → session_at at.left ≡ Some read
    → (IsModified read.0.id → ⊥) → IsUnfit at (bad_exec offset)
no_id at offset read here kind found apart = unfit_session at offset here kind (λ s front more parts block.
    let same = same_Some (s, more) read (sym (session_again front more s block) ∙ sym (ap session_at parts) ∙ found) in
    apart (subst (λ (r : Session × List ℕ). IsModified r.0.id) same block.2.text))

unfit_class : (at : Reading) (offset : ℕ) → offset ≡ at.place → get_or at.left 0 0 ≡ 0x11
    → ((c : ClassHits) (front more : List ℕ) → at.left ≡ front ++ more → IsClassBlock front c → ⊥) → IsUnfit at (bad_exec offset)
unfit_class at offset here kind none = unfit at offset 0x11 here kind by (λ found h is. omega (arith, is))
  where
    by : (b : Block) (front more : List ℕ) → at.left ≡ front ++ more → IsBlock front b → MayStandAt at.place b → kind_of b ≡ 0x11 → ⊥
    by header front more parts block follows is = omega (arith, is)
    by (session s) front more parts block follows is = omega (arith, is)
    by (class c) front more parts block follows is = none c front more parts block

pub no_class : (at : Reading) (offset : ℕ) → offset ≡ at.place → get_or at.left 0 0 ≡ 0x11 → class_at at.left ≡ None → IsUnfit at (bad_exec offset)
no_class at offset here kind none = unfit_class at offset here kind (λ c front more parts block. some_none (sym (class_again front more c block) ∙ sym (ap class_at parts) ∙ none))

-- the name of the class is no modified UTF-8
pub no_name : (at : Reading) (offset : ℕ) (read : ClassHits × List ℕ) → offset ≡ at.place → get_or at.left 0 0 ≡ 0x11 → class_at at.left ≡ Some read
    → (IsModified read.0.name → ⊥) → IsUnfit at (bad_exec offset)
no_name at offset read here kind found apart = unfit_class at offset here kind (λ c front more parts block.
    let same = same_Some (c, more) read (sym (class_again front more c block) ∙ sym (ap class_at parts) ∙ found) in
    apart (subst (λ (r : ClassHits × List ℕ). IsModified r.0.name) same block.2.text))

-- the first block of all is no header
pub no_first : (at : Reading) (offset : ℕ) → offset ≡ at.place → offset ≡ 0 → (get_or at.left 0 0 ≡ 1 → ⊥) → IsUnfit at (bad_exec offset)
no_first at offset here start apart = unfit at offset (get_or at.left 0 0) here refl by (λ found h is. apart is)
  where
    by : (b : Block) (front more : List ℕ) → at.left ≡ front ++ more → IsBlock front b → MayStandAt at.place b → kind_of b ≡ get_or at.left 0 0 → ⊥
    by b front more parts block follows is = apart (sym is ∙ ap kind_of (follows (sym here ∙ start)))

-- ---- an item that was not read

pub not_read : {X Y : Type 0} (view : X → Y) (why : Fail Unfit) (left : List ℕ) (read : Option (Y × List ℕ)) (offset : ℕ) (e : Fail ExecRefusal) (old new : Reading)
    → Gives view (Err why) left read → IsUnread why offset e → (read ≡ None → IsUnfit old (bad_exec offset)) → ReadsFront (Err e) old new
not_read view fails.Memory left read offset e old new gives is none = subst (λ (f : Fail ExecRefusal). ReadsFront (Err f) old new) (sym is) tt
not_read view (fails.Said why) left read offset e old new gives is none = subst (λ (f : Fail ExecRefusal). ReadsFront (Err f) old new) (sym is) (none gives)

-- what is refused at the offset
pub bad_here : (offset : ℕ) (e : Fail ExecRefusal) (old new : Reading) → e ≡ fails.Said (BadExec offset) → IsUnfit old (bad_exec offset) → ReadsFront (Err e) old new
bad_here offset e old new is why = subst (λ (f : Fail ExecRefusal). ReadsFront (Err f) old new) (sym is) why

-- ---- texts that were tested

pub is_text : (b : Bool) (bytes name : List ℕ) → IsTrue b ↔ IsModified bytes → bytes ≡ name → b ≡ true → IsModified name
is_text b bytes name decides same is = subst IsModified same (decides.0 is)

pub is_no_text : (b : Bool) (bytes name : List ℕ) → IsTrue b ↔ IsModified bytes → bytes ≡ name → b ≡ false → IsModified name → ⊥
is_no_text b bytes name decides same is text = false≢true (sym is ∙ decides.1 (subst IsModified (sym same) text))
