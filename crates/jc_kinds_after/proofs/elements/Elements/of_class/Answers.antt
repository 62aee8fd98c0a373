use Rattle.std.proofs.Common.{◌∙◌}
use Rattle.jc_kinds_after.proofs.ElementsLaws.{elements_later, elements_more, element_found, same_elements}
use Rattle.jc_kinds_after.proofs.elements.Elements.of_class.Goals as goal

pub returns-in_err-element-clause-known : goal.returns-in_err-element-clause-known
returns-in_err-element-clause-known c = elements_later c.args.names.now c.object_of.new.names c.args.self.now c.object_of.ensures.names c.requires.known

pub returns-in_err-insert-clause-known : goal.returns-in_err-insert-clause-known
returns-in_err-insert-clause-known c =
    same_elements c.object_of.new.names c.args.self.now _ c.in_err-insert.ensures.err
    (elements_later c.args.names.now c.object_of.new.names c.args.self.now c.object_of.ensures.names c.requires.known)

pub returns-clause-element : goal.returns-clause-element
returns-clause-element c =
    element_found c.args.names.now c.object_of.new.names c.args.number c.text.result.now _ c.in_ok-element.element c.text.ensures.text
    c.in-Some-element_name.ensures.0
    (c.as_slice.ensures.value ∙ c.in_ok-name.ensures.items ∙ c.in-Some-element_name.ensures.1) c.in_ok-element.ensures.kind

pub returns-clause-known : goal.returns-clause-known
returns-clause-known c =
    let old = c.args.names.now in let new = c.object_of.new.names in let number = c.args.number in let element = c.in_ok-element.element in
    let found = element_found old new number c.text.result.now _ element c.text.ensures.text c.in-Some-element_name.ensures.0
    (c.as_slice.ensures.value ∙ c.in_ok-name.ensures.items ∙ c.in-Some-element_name.ensures.1) c.in_ok-element.ensures.kind in
    elements_more old new c.args.self.now _ number element (elements_later old new c.args.self.now c.object_of.ensures.names c.requires.known)
    c.object_of.ensures.names c.requires.number found
    c.in_ok-insert.ensures.updates.0
