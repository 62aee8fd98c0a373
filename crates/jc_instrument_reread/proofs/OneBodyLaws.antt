-- A method has one body, whatever the names with which it was read and whatever faults it was found to be without.
use Rattle.std.proofs.Common.{◌≡◌, ℕ, List, map, Some, sym, ◌∙◌, ap, subst}
use Rattle.jc_methods.specs.VerificationTypes.{Names, type_state_at}
use Rattle.jc_methods.specs.WellMade.{TakeSlots}
use Rattle.jc_methods.specs.declared.body.Body.{Body}
use Rattle.jc_class.specs.declared.class_file.ClassFile.{ClassFile}
use Rattle.jc_class.specs.declared.class_file.Member.{Member}
use Rattle.jc_body.specs.Attributes.{AreTables}
use Rattle.jc_body.specs.BodyOf.{places_used, HasBody, HasParts}
use Rattle.jc_body.specs.First.{Fault}
use Rattle.jc_body.specs.StackMap.{HasFrames}
use Rattle.jc_body.specs.declared.coded.Coded.{Coded}
use Rattle.jc_body.specs.declared.items.Tables.{Tables}
use Rattle.jc_body.proofs.ArgumentLaws.{one_take}
use Rattle.jc_body.proofs.CodedLaws.{one_coded}
use Rattle.jc_body.proofs.MadeLaws.{made_of, is_made}
use Rattle.jc_body.proofs.StackMapLaws.{one_list}
use Rattle.jc_body.proofs.TablesLaws.{one_tables}
use Rattle.jc_body.proofs.UsesLaws.{one_uses}
use Rattle.jc_instrument_reread.proofs.SameBodyLaws.{AreSame}

same_text : {x y : List ℕ} → Some x ≡ Some y → x ≡ y
same_text e = cc

-- ---- under two lists of names

same_parts : (names others : Names) (c : ClassFile) (number : ℕ) (method : Member) (coded : Coded) (tables : Tables) (a b : Body)
    → HasParts names c number method coded tables a → HasParts others c number method coded tables b → AreSame names others a b
same_parts names others c number method coded tables a b p q =
    let numbers = p.number_is ∙ sym q.number_is in
    let owner = same_text (sym p.owner ∙ q.owner) in
    let name = same_text (sym p.name ∙ q.name) in
    let desc = same_text (sym p.desc ∙ q.desc) in
    let slots = one_take method.flags b.desc a.arg_slots b.arg_slots (subst (λ (d : List ℕ). TakeSlots method.flags d a.arg_slots) desc p.arg_slots) q.arg_slots in
    let uses = one_uses c.pool (places_used coded.insns coded.items.rows) a.uses b.uses p.uses q.uses in
    record {
      rest = is_made names c number method coded tables a p
          ∙ (λ i. made_of method coded tables (numbers i) (owner i) (name i) (desc i) (slots i) a.frames (uses i))
          ∙ ap (λ (x : Body). record x { frames = a.frames }) (sym (is_made others c number method coded tables b q));
      seen = one_list c.pool b.owner method coded (map (type_state_at names) a.frames) (map (type_state_at others) b.frames)
          (subst (λ (o : List ℕ). HasFrames c.pool o method coded (map (type_state_at names) a.frames)) owner p.frames) q.frames;
    }

pub same_bodies : (names others : Names) (c : ClassFile) (number : ℕ) (method : Member) (Fs Gs : List Fault) (a b : Body)
    → HasBody Fs names c number method a → HasBody Gs others c number method b → AreSame names others a b
same_bodies names others c number method Fs Gs a b p q =
    let coded = one_coded c.pool method p.coded q.coded p.is q.is in
    let tables = one_tables c.pool q.coded.items.attributes p.tables q.tables (subst (λ (d : Coded). AreTables c.pool d.items.attributes p.tables) coded p.are_tables) q.are_tables in
    let parts = subst (λ (d : Coded). HasParts names c number method d p.tables a) coded p.parts in
    same_parts names others c number method q.coded q.tables a b (subst (λ (t : Tables). HasParts names c number method q.coded t a) tables parts) q.parts
