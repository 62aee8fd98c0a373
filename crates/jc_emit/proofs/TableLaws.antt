-- Entries of tables and kinds that are moved by tables of places are moved by the places.
use Rattle.std.proofs.Common.{◌≡◌, ℕ, suc, ◌-◌, ◌<◌, List, [], ◌∷◌, length, get_or, take, map, refl, ap, arith}
use Rattle.std.specs.Prelude.{All, insert, slice_index}
use Rattle.std.proofs.lemmas.List.{take_all}
use Rattle.std.proofs.lemmas.List.Elements.{All-take}
use Rattle.std.proofs.lemmas.Option.{slice_get_within}
use Rattle.jc_methods.specs.WellMade.{IsHandler, IsLine, IsVar, IsKind, IsState}
use Rattle.jc_methods.specs.declared.insn.Insn.{Insn}
use Rattle.jc_methods.specs.declared.kind.Kind.{Kind}
use Rattle.jc_methods.specs.declared.kind.Kind.TheVariants as kinds
use Rattle.jc_methods.specs.declared.kind.State.{State}
use Rattle.jc_methods.specs.declared.body.Handler.{Handler}
use Rattle.jc_methods.specs.declared.body.LineAt.{LineAt}
use Rattle.jc_methods.specs.declared.body.VarAt.{VarAt}
use Rattle.jc_kinds_after.specs.Shift.{slot_of}
use Rattle.jc_emit.specs.Shift.{image_kind, shifted_state}
use Rattle.jc_emit.specs.TwinTables.{moved_row, moved_line, moved_var}
use Rattle.jc_emit.specs.Placing.{IsTable}
use Rattle.jc_emit.specs.Tables.{RowWithin, VarWithin}
use Rattle.jc_emit.specs.Framing.{IsMadeWithin, without}

-- two functions that agree on each item give one list
pub maps_alike : {X Y : Type 0} (f g : X → Y) (xs : List X) → All (λ x. f x ≡ g x) xs → map f xs ≡ map g xs
maps_alike f g [] all = refl
maps_alike f g (x ∷ xs) all = λ i. all 0 x (omega arith) i ∷ maps_alike f g xs (λ k d lt. all (suc k) d (omega arith)) i

module _ (lead land : ℕ → ℕ) (count : ℕ) (leads lands : List ℕ) (by_leads : IsTable lead count leads) (by_lands : IsTable land count lands) where
  row_moved : (h : Handler) → IsHandler count h → moved_row (slice_index leads) (slice_index lands) h ≡ moved_row lead land h
  row_moved h is =
      let start = by_leads.each h.start (let lt = is.some in let le = is.end in omega (arith, lt, le)) in
      let end = by_leads.each h.end is.end in
      let target = by_lands.each h.target (let lt = is.target in omega (arith, lt)) in
      λ i. record { start = start i; end = end i; target = target i; class = h.class }

  pub rows_moved : (rows : List Handler) → All (IsHandler count) rows → map (moved_row (slice_index leads) (slice_index lands)) rows ≡ map (moved_row lead land) rows
  rows_moved rows all = maps_alike _ _ rows (λ k d lt. row_moved (get_or rows k d) (all k d lt))

  pub rows_within : (rows : List Handler) → All (IsHandler count) rows → All (RowWithin (length leads) (length lands)) rows
  rows_within rows all k d lt =
      let h = all k d lt in
      let some = h.some in
      let end = h.end in
      let target = h.target in
      let a = by_leads.size in
      let c = by_lands.size in
      record { start = omega (arith, some, end, a); end = omega (arith, end, a); target = omega (arith, target, c) }

module _ (land : ℕ → ℕ) (count : ℕ) (lands : List ℕ) (by_lands : IsTable land count lands) where
  line_moved : (l : LineAt) → IsLine count l → moved_line (slice_index lands) l ≡ moved_line land l
  line_moved l lt = let at = by_lands.each l.at (omega (arith, lt)) in λ i. record { at = at i; line = l.line }

  pub lines_moved : (lines : List LineAt) → All (IsLine count) lines → map (moved_line (slice_index lands)) lines ≡ map (moved_line land) lines
  lines_moved lines all = maps_alike _ _ lines (λ k d lt. line_moved (get_or lines k d) (all k d lt))

  pub lines_within : (lines : List LineAt) → All (IsLine count) lines → All (λ l. l.at < length lands) lines
  lines_within lines all k d lt = let l = all k d lt in let c = by_lands.size in omega (arith, l, c)

  var_moved : (v max_locals : ℕ) (x : VarAt) → IsVar count max_locals x → moved_var v (slice_index lands) x ≡ moved_var v land x
  var_moved v max_locals x is =
      let start = by_lands.each x.start (let lt = is.start in omega (arith, lt)) in
      let end = by_lands.each x.end is.end in
      λ i. record { start = start i; end = end i; name = x.name; desc = x.desc; slot = slot_of v x.slot }

  pub vars_moved : (v max_locals : ℕ) (vars : List VarAt) → All (IsVar count max_locals) vars
      → map (moved_var v (slice_index lands)) vars ≡ map (moved_var v land) vars
  vars_moved v max_locals vars all = maps_alike _ _ vars (λ k d lt. var_moved v max_locals (get_or vars k d) (all k d lt))

  pub vars_within : (max_locals : ℕ) (vars : List VarAt) → max_locals < 65535 → All (IsVar count max_locals) vars → All (VarWithin (length lands)) vars
  vars_within max_locals vars few all k d lt =
      let x = all k d lt in
      let start = x.start in
      let end = x.end in
      let slot = x.slot in
      let c = by_lands.size in
      record { start = omega (arith, start, c); end = omega (arith, end, c); slot = omega (arith, slot, few) }

module _ (code : List Insn) (image : ℕ → ℕ) (images : List ℕ) (by_images : IsTable image (length code) images) where
  made_within : (at : ℕ) → IsKind code (kinds.Uninit at) → at < length code
  made_within at made = slice_get_within code at _ made.1

  kind_moved : (k : Kind) → IsKind code k → image_kind (slice_index images) k ≡ image_kind image k
  kind_moved (kinds.Uninit at) made = ap kinds.Uninit (by_images.each at (let lt = made_within at made in omega (arith, lt)))
  kind_moved k made = refl

  kind_within : (k : Kind) → IsKind code k → IsMadeWithin (length images) k
  kind_within (kinds.Uninit at) made = let lt = made_within at made in let c = by_images.size in omega (arith, lt, c)
  kind_within k made = tt

  pub kinds_moved : (ks : List Kind) → All (IsKind code) ks → map (image_kind (slice_index images)) ks ≡ map (image_kind image) ks
  kinds_moved ks all = maps_alike _ _ ks (λ k d lt. kind_moved (get_or ks k d) (all k d lt))

  pub kinds_within : (ks : List Kind) → All (IsKind code) ks → All (IsMadeWithin (length images)) ks
  kinds_within ks all k d lt = kind_within (get_or ks k d) (all k d lt)

  pub state_moved : (v array operands max_locals max_stack : ℕ) (s : State) → IsState code max_locals max_stack s
      → shifted_state v array (slice_index images) (without operands s) ≡ shifted_state v array image (without operands s)
  state_moved v array operands max_locals max_stack s is =
      let n = length s.stack - operands in
      let locals = kinds_moved s.locals is.local_kinds in
      let stack = kinds_moved (take n s.stack) (All-take (IsKind code) n s.stack is.stack_kinds) in
      λ i. record { locals = insert (locals i) v (kinds.Object array); stack = stack i }

-- no entry is taken
pub without_none : (s : State) → without 0 s ≡ s
without_none s =
    let all : take (length s.stack - 0) s.stack ≡ s.stack = take_all (length s.stack - 0) s.stack (omega arith) in
    λ i. record { locals = s.locals; stack = all i }
