-- The forms of the table, one for each shape.
use Rattle.std.specs.Prelude.{ℕ, Bool, true, false, List, [], ◌∷◌, map, Option, Some, None}
use Rattle.jc_methods.specs.VerificationTypes.{Names, VerificationType, TypeState, type_state, verification_type, int, float, double, long, null}
use Rattle.jc_methods.specs.declared.kind.Kind.{Kind}
use Rattle.jc_methods.specs.declared.kind.State.{State}
use Rattle.jc_kinds_after.specs.declared.want.Want.{Want}
use Rattle.jc_kinds_after.specs.declared.want.Want.TheVariants as wants
use Rattle.jc_kinds_after.specs.declared.table.Shape.{Shape}
use Rattle.jc_kinds_after.specs.declared.table.Shape.TheVariants as shapes
use Rattle.jc_kinds_after.specs.declared.form.Give.{Give}
use Rattle.jc_kinds_after.specs.declared.form.Give.TheVariants as given
use Rattle.jc_kinds_after.specs.declared.form.StackEffect.{StackEffect as KeptForm}
use Rattle.jc_kinds_after.specs.Step.{Gives, kind, item, StackEffect, moved_by, built_as}
use Rattle.jc_kinds_after.specs.Table.{form, one}

-- the form of a shape, if it has one
abbrev pub forms_of : Shape → List StackEffect
forms_of shapes.No = []
forms_of shapes.Nothing = one [] []
forms_of shapes.PushNull = one [] (kind null ∷ [])
forms_of shapes.PushInt = one [] (kind int ∷ [])
forms_of shapes.PushLong = one [] (kind long ∷ [])
forms_of shapes.PushFloat = one [] (kind float ∷ [])
forms_of shapes.PushDouble = one [] (kind double ∷ [])
forms_of shapes.ElementInt = one (wants.Reference ∷ wants.Int ∷ []) (kind int ∷ [])
forms_of shapes.ElementLong = one (wants.Reference ∷ wants.Int ∷ []) (kind long ∷ [])
forms_of shapes.ElementFloat = one (wants.Reference ∷ wants.Int ∷ []) (kind float ∷ [])
forms_of shapes.ElementDouble = one (wants.Reference ∷ wants.Int ∷ []) (kind double ∷ [])
forms_of shapes.PutInt = one (wants.Reference ∷ wants.Int ∷ wants.Int ∷ []) []
forms_of shapes.PutLong = one (wants.Reference ∷ wants.Int ∷ wants.Long ∷ []) []
forms_of shapes.PutFloat = one (wants.Reference ∷ wants.Int ∷ wants.Float ∷ []) []
forms_of shapes.PutDouble = one (wants.Reference ∷ wants.Int ∷ wants.Double ∷ []) []
forms_of shapes.PutReference = one (wants.Reference ∷ wants.Int ∷ wants.Reference ∷ []) []
forms_of shapes.Pop = one (wants.Single ∷ []) []
forms_of shapes.PopTwo = one (wants.Single ∷ wants.Single ∷ []) []
forms_of shapes.PopPair = one (wants.Pair ∷ []) []
forms_of shapes.Dup = one (wants.Single ∷ []) (item 0 ∷ item 0 ∷ [])
forms_of shapes.DupUnderOne = one (wants.Single ∷ wants.Single ∷ []) (item 1 ∷ item 0 ∷ item 1 ∷ [])
forms_of shapes.DupUnderTwo = one (wants.Single ∷ wants.Single ∷ wants.Single ∷ []) (item 2 ∷ item 0 ∷ item 1 ∷ item 2 ∷ [])
forms_of shapes.DupUnderPair = one (wants.Pair ∷ wants.Single ∷ []) (item 1 ∷ item 0 ∷ item 1 ∷ [])
forms_of shapes.DupTwo = one (wants.Single ∷ wants.Single ∷ []) (item 0 ∷ item 1 ∷ item 0 ∷ item 1 ∷ [])
forms_of shapes.DupPair = one (wants.Pair ∷ []) (item 0 ∷ item 0 ∷ [])
forms_of shapes.DupTwoUnderOne = one (wants.Single ∷ wants.Single ∷ wants.Single ∷ []) (item 1 ∷ item 2 ∷ item 0 ∷ item 1 ∷ item 2 ∷ [])
forms_of shapes.DupPairUnderOne = one (wants.Single ∷ wants.Pair ∷ []) (item 1 ∷ item 0 ∷ item 1 ∷ [])
forms_of shapes.DupTwoUnderTwo = one (wants.Single ∷ wants.Single ∷ wants.Single ∷ wants.Single ∷ []) (item 2 ∷ item 3 ∷ item 0 ∷ item 1 ∷ item 2 ∷ item 3 ∷ [])
forms_of shapes.DupPairUnderTwo = one (wants.Single ∷ wants.Single ∷ wants.Pair ∷ []) (item 2 ∷ item 0 ∷ item 1 ∷ item 2 ∷ [])
forms_of shapes.DupTwoUnderPair = one (wants.Pair ∷ wants.Single ∷ wants.Single ∷ []) (item 1 ∷ item 2 ∷ item 0 ∷ item 1 ∷ item 2 ∷ [])
forms_of shapes.DupPairUnderPair = one (wants.Pair ∷ wants.Pair ∷ []) (item 1 ∷ item 0 ∷ item 1 ∷ [])
forms_of shapes.Swap = one (wants.Single ∷ wants.Single ∷ []) (item 1 ∷ item 0 ∷ [])
forms_of shapes.TwoInts = one (wants.Int ∷ wants.Int ∷ []) (kind int ∷ [])
forms_of shapes.TwoLongs = one (wants.Long ∷ wants.Long ∷ []) (kind long ∷ [])
forms_of shapes.TwoFloats = one (wants.Float ∷ wants.Float ∷ []) (kind float ∷ [])
forms_of shapes.TwoDoubles = one (wants.Double ∷ wants.Double ∷ []) (kind double ∷ [])
forms_of shapes.OneInt = one (wants.Int ∷ []) (kind int ∷ [])
forms_of shapes.OneLong = one (wants.Long ∷ []) (kind long ∷ [])
forms_of shapes.OneFloat = one (wants.Float ∷ []) (kind float ∷ [])
forms_of shapes.OneDouble = one (wants.Double ∷ []) (kind double ∷ [])
forms_of shapes.LongByInt = one (wants.Long ∷ wants.Int ∷ []) (kind long ∷ [])
forms_of shapes.IntToLong = one (wants.Int ∷ []) (kind long ∷ [])
forms_of shapes.IntToFloat = one (wants.Int ∷ []) (kind float ∷ [])
forms_of shapes.IntToDouble = one (wants.Int ∷ []) (kind double ∷ [])
forms_of shapes.LongToInt = one (wants.Long ∷ []) (kind int ∷ [])
forms_of shapes.LongToFloat = one (wants.Long ∷ []) (kind float ∷ [])
forms_of shapes.LongToDouble = one (wants.Long ∷ []) (kind double ∷ [])
forms_of shapes.FloatToInt = one (wants.Float ∷ []) (kind int ∷ [])
forms_of shapes.FloatToLong = one (wants.Float ∷ []) (kind long ∷ [])
forms_of shapes.FloatToDouble = one (wants.Float ∷ []) (kind double ∷ [])
forms_of shapes.DoubleToInt = one (wants.Double ∷ []) (kind int ∷ [])
forms_of shapes.DoubleToLong = one (wants.Double ∷ []) (kind long ∷ [])
forms_of shapes.DoubleToFloat = one (wants.Double ∷ []) (kind float ∷ [])
forms_of shapes.CompareLongs = one (wants.Long ∷ wants.Long ∷ []) (kind int ∷ [])
forms_of shapes.CompareFloats = one (wants.Float ∷ wants.Float ∷ []) (kind int ∷ [])
forms_of shapes.CompareDoubles = one (wants.Double ∷ wants.Double ∷ []) (kind int ∷ [])
forms_of shapes.TakeInt = one (wants.Int ∷ []) []
forms_of shapes.TakeLong = one (wants.Long ∷ []) []
forms_of shapes.TakeFloat = one (wants.Float ∷ []) []
forms_of shapes.TakeDouble = one (wants.Double ∷ []) []
forms_of shapes.TakeReference = one (wants.Reference ∷ []) []
forms_of shapes.TakeTwoInts = one (wants.Int ∷ wants.Int ∷ []) []
forms_of shapes.TakeTwoObjects = one (wants.Anything ∷ wants.Anything ∷ []) []
forms_of shapes.TakeObject = one (wants.Anything ∷ []) []
forms_of shapes.Length = one (wants.Reference ∷ []) (kind int ∷ [])

-- ---- forms as they are kept, under names of classes

abbrev pub gives_of : Names → Give → Gives
gives_of names (given.Kind k) = kind (verification_type names k)
gives_of names (given.Item n) = item n

-- the state after the constructor of an object was called whose class has this name
abbrev pub built_by_name : Names → ℕ → Kind → List Kind → List Give → List ℕ → State → Option TypeState
built_by_name names most old rest gives name s =
    built_as most (verification_type names old) (map (verification_type names) rest) (map (gives_of names) gives) (Some name) (type_state names s)

-- what is left is one of the operands
abbrev pub is_item : Give → Bool
is_item (given.Kind k) = false
is_item (given.Item n) = true

abbrev pub form_of : Names → List Want → List Give → StackEffect
form_of names wanted gives = form wanted (map (gives_of names) gives)

abbrev pub forms_seen : Names → Option KeptForm → List StackEffect
forms_seen names None = []
forms_seen names (Some f) = form_of names f.wants.now f.gives.now ∷ []

-- by this one form
abbrev pub moved_in : ℕ → StackEffect → List VerificationType → Option (List VerificationType)
moved_in most f stack = moved_by most (f ∷ []) stack

-- by the form that was found, or else by the rest
abbrev pub chosen : Names → ℕ → List VerificationType → List StackEffect → Option KeptForm → Option (List VerificationType)
chosen names most stack rest None = moved_by most rest stack
chosen names most stack rest (Some f) = moved_in most (form_of names f.wants.now f.gives.now) stack
