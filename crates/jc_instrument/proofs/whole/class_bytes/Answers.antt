use Rattle.std.proofs.Common.{ℕ, List, sym, ◌∙◌, ap, subst}
use Rattle.std.specs.List.{list_any}
use Rattle.jc_bytes.specs.ByteLists.{AreBytes}
use Rattle.jc_class.specs.ClassText.{ClassText}
use Rattle.jc_instrument.specs.Changing.{has_too_long, is_too_long}
use Rattle.jc_instrument.proofs.whole.class_bytes.Goals as goal

pub write_class-requires : goal.write_class-requires
write_class-requires c =
    c.requires (sym (ap (list_any has_too_long) c.deref.ensures) ∙ sym c.some_too_long.ensures ∙ c.if-some_too_long.false)
    (sym (ap (list_any is_too_long) c.deref-else-some_too_long.ensures) ∙ sym c.some_attribute_too_long.ensures ∙ c.if-some_attribute_too_long.false)

pub returns-clause-text : goal.returns-clause-text
returns-clause-text c = subst (λ (bytes : List ℕ). ClassText bytes c.args.twin) (sym c.from_vec.ensures) c.in_ok-bytes.ensures.text

pub returns-clause-bytes : goal.returns-clause-bytes
returns-clause-bytes c = subst AreBytes (c.as_slice.ensures.value ∙ sym c.from_vec.ensures) c.are_bytes.ensures
