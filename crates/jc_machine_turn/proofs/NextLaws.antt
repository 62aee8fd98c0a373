-- What came of an operation, from what came of its kind.
use Rattle.std.proofs.Common.{◌≡◌, ◌∙◌, ap, sym, subst}
use Rattle.jc_machine_model.specs.World as world
use Rattle.jc_machine_model.specs.Operations as operations
use Rattle.jc_machine_model.specs.Perform.{perform}
use Rattle.jc_machine_code.specs.declared.operation.Operation.{Operation}
use Rattle.jc_machine_code.specs.Shown.{Shows}
use Rattle.jc_machine_turn.specs.declared.next.Next.{Next}
use Rattle.jc_machine_turn.specs.declared.next.Next.TheVariants as nexts
use Rattle.jc_machine_turn.specs.Nexts.{result_of, Settles, ComesTo}

settled : (next : Next) (s s' : world.Shared) (f f' : world.Frame) (d : operations.Operation) → Settles next f f'
    → result_of next s' f' ≡ perform d s f → ComesTo next s' f' d s f
settled nexts.Goes s s' f f' d settles is = is
settled (nexts.Hits class id) s s' f f' d settles is = is
settled (nexts.Calls callee) s s' f f' d settles is = absurd settles
settled (nexts.Leaves v) s s' f f' d settles is = is
settled (nexts.Raises thrown) s s' f f' d settles is = is
settled (nexts.Throws thrown v) s s' f f' d settles is = is
settled nexts.Stuck s s' f f' d settles is = is

-- the operation of the definition is this one
pub comes : (next : Next) (s s' : world.Shared) (f f' : world.Frame) (d e : operations.Operation) → d ≡ e → Settles next f f'
    → result_of next s' f' ≡ perform e s f → ComesTo next s' f' d s f
comes next s s' f f' d e same settles is = settled next s s' f f' d settles (is ∙ ap (λ o. perform o s f) (sym same))

-- what is shown of an operation that is another is shown of that
pub shown : (o p : Operation) (d : operations.Operation) → o ≡ p → Shows o d → Shows p d
shown o p d same shows = subst (λ x. Shows x d) same shows
