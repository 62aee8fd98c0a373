use Rattle.std.proofs.Common.{◌≡◌, ℕ, ◌-◌, List, ◌++◌, length, map, sym, ◌∙◌, ap, subst, arith, All}
use Rattle.std.proofs.lemmas.List.Elements.{All-from_recursion}
use Rattle.std.specs.List.{AllByRecursion}
use Rattle.jc_bytes.specs.BigNumbers.{short}
use Rattle.jc_methods.specs.declared.kind.Kind.{Kind}
use Rattle.jc_methods.specs.VerificationTypes.{VerificationType, class_names, verification_type, type_state_at, IsNumbered}
use Rattle.jc_frames.specs.Frames.{values_in}
use Rattle.jc_frames.specs.FullFrames.{full_text, types_text}
use Rattle.jc_frames.specs.FullTable.{HasPlace, IsPlaced}
use Rattle.jc_frames.proofs.FullTextLaws.{both_parts, full_parts}
use Rattle.jc_frames.proofs.ResultLaws.{ok_then}
use Rattle.jc_frames.proofs.full_frames.put_frame.Goals as goal

pub put_kinds-requires-clause-few : goal.put_kinds-requires-clause-few
put_kinds-requires-clause-few c =
    let a = ap (λ (l : List Kind). length l) c.deref-2.ensures.value in
    let b = ap (λ (l : List Kind). length l) c.deref.ensures in
    let few = c.in_ok-locals.ensures.few in
    let most = c.requires.fits.few_locals in
    omega (arith, a, b, few, most)

pub put_kinds-requires-clause-numbers : goal.put_kinds-requires-clause-numbers
put_kinds-requires-clause-numbers c =
    let Each : List Kind → Type 0 = λ l. All (IsNumbered (length c.args.refers.now.names.now)) l in
    subst Each (sym c.deref-2.ensures.value) (c.in_ok-locals.ensures.numbered (length c.args.refers.now.names.now)
    (subst Each (sym c.deref.ensures) (All-from_recursion (IsNumbered (length c.args.refers.now.names.now)) c.args.frame.now.state.locals c.requires.fits.numbered.locals)))

pub put_kinds-requires-clause-places : goal.put_kinds-requires-clause-places
put_kinds-requires-clause-places c =
    let Each : List Kind → Type 0 = λ l. All (IsPlaced (length c.args.refers.now.starts.now)) l in
    subst Each (sym c.deref-2.ensures.value) (c.in_ok-locals.ensures.placed (length c.args.refers.now.starts.now)
    (subst Each (sym c.deref.ensures) (All-from_recursion (IsPlaced (length c.args.refers.now.starts.now)) c.args.frame.now.state.locals c.requires.fits.local_places)))

pub put_kinds-requires-clause-stand : goal.put_kinds-requires-clause-stand
put_kinds-requires-clause-stand c =
    let names = c.args.refers.now.names.now in
    let locals = c.args.frame.now.state.locals in
    let values : map (verification_type names) c.deref-2.result.now ≡ values_in (map (verification_type names) locals) =
    ap (map (verification_type names)) c.deref-2.ensures.value ∙ c.in_ok-locals.ensures.values names ∙ ap (λ (l : List Kind). values_in (map (verification_type names) l)) c.deref.ensures in
    subst (λ (l : List VerificationType). AllByRecursion (HasPlace c.args.refers.now.pool.now) (class_names l)) (sym values)
    (both_parts (HasPlace c.args.refers.now.pool.now) (class_names (values_in (map (verification_type names) locals)))
    (class_names (map (verification_type names) c.args.frame.now.state.stack)) c.requires.stand).0

pub put_kinds-requires-2-clause-few : goal.put_kinds-requires-2-clause-few
put_kinds-requires-2-clause-few c =
    let a = ap (λ (l : List Kind). length l) c.deref-3.ensures in
    let most = c.requires.fits.few_stack in
    omega (arith, a, most)

pub put_kinds-requires-2-clause-numbers : goal.put_kinds-requires-2-clause-numbers
put_kinds-requires-2-clause-numbers c =
    let Each : List Kind → Type 0 = λ l. All (IsNumbered (length c.args.refers.now.names.now)) l in
    subst Each (sym c.deref-3.ensures) (All-from_recursion (IsNumbered (length c.args.refers.now.names.now)) c.args.frame.now.state.stack c.requires.fits.numbered.stack)

pub put_kinds-requires-2-clause-places : goal.put_kinds-requires-2-clause-places
put_kinds-requires-2-clause-places c =
    let Each : List Kind → Type 0 = λ l. All (IsPlaced (length c.args.refers.now.starts.now)) l in
    subst Each (sym c.deref-3.ensures) (All-from_recursion (IsPlaced (length c.args.refers.now.starts.now)) c.args.frame.now.state.stack c.requires.fits.stack_places)

pub put_kinds-requires-2-clause-stand : goal.put_kinds-requires-2-clause-stand
put_kinds-requires-2-clause-stand c =
    let names = c.args.refers.now.names.now in
    let state = c.args.frame.now.state in
    subst (λ (l : List Kind). AllByRecursion (HasPlace c.args.refers.now.pool.now) (class_names (map (verification_type names) l))) (sym c.deref-3.ensures)
    (both_parts (HasPlace c.args.refers.now.pool.now) (class_names (values_in (map (verification_type names) state.locals)))
    (class_names (map (verification_type names) state.stack)) c.requires.stand).1

pub returns-clause-text : goal.returns-clause-text
returns-clause-text c p are =
    let names = c.args.refers.now.names.now in
    let state = c.args.frame.now.state in
    let old = c.args.into.now.items in
    let a = c.put_u8.new.into.items in
    let b = c.put_short.new.into.items in
    let m = c.put_kinds.new.into.items in
    let new = c.put_kinds-2.new.into.items in
    let values : map (verification_type names) c.deref-2.result.now ≡ values_in (map (verification_type names) state.locals) =
    ap (map (verification_type names)) c.deref-2.ensures.value ∙ c.in_ok-locals.ensures.values names ∙ ap (λ (l : List Kind). values_in (map (verification_type names) l)) c.deref.ensures in
    let locals : m ≡ b ++ types_text p (values_in (map (verification_type names) state.locals)) = c.in_ok-put_kinds.ensures.text p are
    ∙ ap (λ (l : List VerificationType). b ++ types_text p l) values in
    let delta : b ≡ a ++ short (p.start c.args.frame.now.at - c.args.base) = c.in_ok-put_short.ensures ∙ ap (λ (n : ℕ). a ++ short (n - c.args.base)) (sym (are.start c.args.frame.now.at)) in
    let Text : List Kind → Type 0 = λ l. new ≡ m ++ types_text p (map (verification_type names) l) in
    ok_then (Text c.deref-3.result.now) (new ≡ old ++ full_text p c.args.base (type_state_at names c.args.frame.now)) c.put_kinds-2.result
    (λ e. full_parts old a b m new (short (p.start c.args.frame.now.at - c.args.base)) (types_text p (values_in (map (verification_type names) state.locals)))
    (types_text p (map (verification_type names) state.stack)) c.in_ok-put_u8.ensures.ok delta locals (subst Text c.deref-3.ensures e))
    (c.put_kinds-2.ensures.text p are)
