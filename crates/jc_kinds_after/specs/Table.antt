-- The opcodes that do nothing but take operands from the stack and leave results: one table (JVM Specification 6.5).
use Rattle.std.specs.Prelude.{ℕ, ◌&&◌, List, [], ◌∷◌, nat_le, if◌then◌else◌}
use Rattle.jc_methods.specs.Opcode as opcode
use Rattle.jc_methods.specs.VerificationTypes.{VerificationType, int, float, double, long, null}
use Rattle.jc_kinds_after.specs.declared.want.Want.{Want}
use Rattle.jc_kinds_after.specs.declared.want.Want.TheVariants as wants
use Rattle.jc_kinds_after.specs.Step.{Gives, kind, item, StackEffect}

-- ---- forms

abbrev pub form : List Want → List Gives → StackEffect
form wanted given = record { wanted = wanted; given = given }

-- one form
abbrev pub one : List Want → List Gives → List StackEffect
one wanted given = form wanted given ∷ []

-- a value is pushed
abbrev pub gives : VerificationType → List StackEffect
gives h = one [] (kind h ∷ [])

-- operands are taken
abbrev pub takes : List Want → List StackEffect
takes wanted = one wanted []

-- operands become a value
abbrev pub turns : List Want → VerificationType → List StackEffect
turns wanted h = one wanted (kind h ∷ [])

-- ---- the table

-- the opcodes from the first to the last, and their forms
pub record Row : Type 0 where
  pub first : ℕ
  pub last : ℕ
  pub forms : List StackEffect

abbrev row : ℕ → ℕ → List StackEffect → Row
row first last forms = record { first = first; last = last; forms = forms }

unfoldable pub table : List Row
table =
    -- nop
    row opcode.nop opcode.nop (one [] [])
    -- aconst_null
    ∷ row opcode.aconst_null opcode.aconst_null (gives null)
    -- iconst_m1 to iconst_5
    ∷ row opcode.iconst_m1 opcode.iconst_5 (gives int)
    -- lconst_0, lconst_1
    ∷ row opcode.lconst_0 opcode.lconst_1 (gives long)
    -- fconst_0 to fconst_2
    ∷ row opcode.fconst_0 opcode.fconst_2 (gives float)
    -- dconst_0, dconst_1
    ∷ row opcode.dconst_0 opcode.dconst_1 (gives double)
    -- bipush, sipush
    ∷ row opcode.bipush opcode.sipush (gives int)
    -- iaload
    ∷ row opcode.iaload opcode.iaload (turns (wants.Reference ∷ wants.Int ∷ []) int)
    -- laload
    ∷ row opcode.laload opcode.laload (turns (wants.Reference ∷ wants.Int ∷ []) long)
    -- faload
    ∷ row opcode.faload opcode.faload (turns (wants.Reference ∷ wants.Int ∷ []) float)
    -- daload
    ∷ row opcode.daload opcode.daload (turns (wants.Reference ∷ wants.Int ∷ []) double)
    -- baload, caload, saload
    ∷ row opcode.baload opcode.saload (turns (wants.Reference ∷ wants.Int ∷ []) int)
    -- iastore
    ∷ row opcode.iastore opcode.iastore (takes (wants.Reference ∷ wants.Int ∷ wants.Int ∷ []))
    -- lastore
    ∷ row opcode.lastore opcode.lastore (takes (wants.Reference ∷ wants.Int ∷ wants.Long ∷ []))
    -- fastore
    ∷ row opcode.fastore opcode.fastore (takes (wants.Reference ∷ wants.Int ∷ wants.Float ∷ []))
    -- dastore
    ∷ row opcode.dastore opcode.dastore (takes (wants.Reference ∷ wants.Int ∷ wants.Double ∷ []))
    -- aastore
    ∷ row opcode.aastore opcode.aastore (takes (wants.Reference ∷ wants.Int ∷ wants.Reference ∷ []))
    -- bastore, castore, sastore
    ∷ row opcode.bastore opcode.sastore (takes (wants.Reference ∷ wants.Int ∷ wants.Int ∷ []))
    -- pop
    ∷ row opcode.pop opcode.pop (takes (wants.Single ∷ []))
    -- pop2
    ∷ row opcode.pop2 opcode.pop2 (form (wants.Single ∷ wants.Single ∷ []) [] ∷ form (wants.Pair ∷ []) [] ∷ [])
    -- dup
    ∷ row opcode.dup opcode.dup (one (wants.Single ∷ []) (item 0 ∷ item 0 ∷ []))
    -- dup_x1
    ∷ row opcode.dup_x1 opcode.dup_x1 (one (wants.Single ∷ wants.Single ∷ []) (item 1 ∷ item 0 ∷ item 1 ∷ []))
    -- dup_x2
    ∷ row opcode.dup_x2 opcode.dup_x2 (
    form (wants.Single ∷ wants.Single ∷ wants.Single ∷ []) (item 2 ∷ item 0 ∷ item 1 ∷ item 2 ∷ [])
    ∷ form (wants.Pair ∷ wants.Single ∷ []) (item 1 ∷ item 0 ∷ item 1 ∷ [])
    ∷ [])
    -- dup2
    ∷ row opcode.dup2 opcode.dup2 (
    form (wants.Single ∷ wants.Single ∷ []) (item 0 ∷ item 1 ∷ item 0 ∷ item 1 ∷ [])
    ∷ form (wants.Pair ∷ []) (item 0 ∷ item 0 ∷ [])
    ∷ [])
    -- dup2_x1
    ∷ row opcode.dup2_x1 opcode.dup2_x1 (
    form (wants.Single ∷ wants.Single ∷ wants.Single ∷ []) (item 1 ∷ item 2 ∷ item 0 ∷ item 1 ∷ item 2 ∷ [])
    ∷ form (wants.Single ∷ wants.Pair ∷ []) (item 1 ∷ item 0 ∷ item 1 ∷ [])
    ∷ [])
    -- dup2_x2
    ∷ row opcode.dup2_x2 opcode.dup2_x2 (
    form (wants.Single ∷ wants.Single ∷ wants.Single ∷ wants.Single ∷ []) (item 2 ∷ item 3 ∷ item 0 ∷ item 1 ∷ item 2 ∷ item 3 ∷ [])
    ∷ form (wants.Single ∷ wants.Single ∷ wants.Pair ∷ []) (item 2 ∷ item 0 ∷ item 1 ∷ item 2 ∷ [])
    ∷ form (wants.Pair ∷ wants.Single ∷ wants.Single ∷ []) (item 1 ∷ item 2 ∷ item 0 ∷ item 1 ∷ item 2 ∷ [])
    ∷ form (wants.Pair ∷ wants.Pair ∷ []) (item 1 ∷ item 0 ∷ item 1 ∷ [])
    ∷ [])
    -- swap
    ∷ row opcode.swap opcode.swap (one (wants.Single ∷ wants.Single ∷ []) (item 1 ∷ item 0 ∷ []))
    -- iadd, ladd, fadd, dadd
    ∷ row opcode.iadd opcode.iadd (turns (wants.Int ∷ wants.Int ∷ []) int)
    ∷ row opcode.ladd opcode.ladd (turns (wants.Long ∷ wants.Long ∷ []) long)
    ∷ row opcode.fadd opcode.fadd (turns (wants.Float ∷ wants.Float ∷ []) float)
    ∷ row opcode.dadd opcode.dadd (turns (wants.Double ∷ wants.Double ∷ []) double)
    -- isub, lsub, fsub, dsub
    ∷ row opcode.isub opcode.isub (turns (wants.Int ∷ wants.Int ∷ []) int)
    ∷ row opcode.lsub opcode.lsub (turns (wants.Long ∷ wants.Long ∷ []) long)
    ∷ row opcode.fsub opcode.fsub (turns (wants.Float ∷ wants.Float ∷ []) float)
    ∷ row opcode.dsub opcode.dsub (turns (wants.Double ∷ wants.Double ∷ []) double)
    -- imul, lmul, fmul, dmul
    ∷ row opcode.imul opcode.imul (turns (wants.Int ∷ wants.Int ∷ []) int)
    ∷ row opcode.lmul opcode.lmul (turns (wants.Long ∷ wants.Long ∷ []) long)
    ∷ row opcode.fmul opcode.fmul (turns (wants.Float ∷ wants.Float ∷ []) float)
    ∷ row opcode.dmul opcode.dmul (turns (wants.Double ∷ wants.Double ∷ []) double)
    -- idiv, ldiv, fdiv, ddiv
    ∷ row opcode.idiv opcode.idiv (turns (wants.Int ∷ wants.Int ∷ []) int)
    ∷ row opcode.ldiv opcode.ldiv (turns (wants.Long ∷ wants.Long ∷ []) long)
    ∷ row opcode.fdiv opcode.fdiv (turns (wants.Float ∷ wants.Float ∷ []) float)
    ∷ row opcode.ddiv opcode.ddiv (turns (wants.Double ∷ wants.Double ∷ []) double)
    -- irem, lrem, frem, drem
    ∷ row opcode.irem opcode.irem (turns (wants.Int ∷ wants.Int ∷ []) int)
    ∷ row opcode.lrem opcode.lrem (turns (wants.Long ∷ wants.Long ∷ []) long)
    ∷ row opcode.frem opcode.frem (turns (wants.Float ∷ wants.Float ∷ []) float)
    ∷ row opcode.drem opcode.drem (turns (wants.Double ∷ wants.Double ∷ []) double)
    -- ineg, lneg, fneg, dneg
    ∷ row opcode.ineg opcode.ineg (turns (wants.Int ∷ []) int)
    ∷ row opcode.lneg opcode.lneg (turns (wants.Long ∷ []) long)
    ∷ row opcode.fneg opcode.fneg (turns (wants.Float ∷ []) float)
    ∷ row opcode.dneg opcode.dneg (turns (wants.Double ∷ []) double)
    -- ishl, lshl
    ∷ row opcode.ishl opcode.ishl (turns (wants.Int ∷ wants.Int ∷ []) int)
    ∷ row opcode.lshl opcode.lshl (turns (wants.Long ∷ wants.Int ∷ []) long)
    -- ishr, lshr
    ∷ row opcode.ishr opcode.ishr (turns (wants.Int ∷ wants.Int ∷ []) int)
    ∷ row opcode.lshr opcode.lshr (turns (wants.Long ∷ wants.Int ∷ []) long)
    -- iushr, lushr
    ∷ row opcode.iushr opcode.iushr (turns (wants.Int ∷ wants.Int ∷ []) int)
    ∷ row opcode.lushr opcode.lushr (turns (wants.Long ∷ wants.Int ∷ []) long)
    -- iand, land
    ∷ row opcode.iand opcode.iand (turns (wants.Int ∷ wants.Int ∷ []) int)
    ∷ row opcode.land opcode.land (turns (wants.Long ∷ wants.Long ∷ []) long)
    -- ior, lor
    ∷ row opcode.ior opcode.ior (turns (wants.Int ∷ wants.Int ∷ []) int)
    ∷ row opcode.lor opcode.lor (turns (wants.Long ∷ wants.Long ∷ []) long)
    -- ixor, lxor
    ∷ row opcode.ixor opcode.ixor (turns (wants.Int ∷ wants.Int ∷ []) int)
    ∷ row opcode.lxor opcode.lxor (turns (wants.Long ∷ wants.Long ∷ []) long)
    -- i2l, i2f, i2d
    ∷ row opcode.i2l opcode.i2l (turns (wants.Int ∷ []) long)
    ∷ row opcode.i2f opcode.i2f (turns (wants.Int ∷ []) float)
    ∷ row opcode.i2d opcode.i2d (turns (wants.Int ∷ []) double)
    -- l2i, l2f, l2d
    ∷ row opcode.l2i opcode.l2i (turns (wants.Long ∷ []) int)
    ∷ row opcode.l2f opcode.l2f (turns (wants.Long ∷ []) float)
    ∷ row opcode.l2d opcode.l2d (turns (wants.Long ∷ []) double)
    -- f2i, f2l, f2d
    ∷ row opcode.f2i opcode.f2i (turns (wants.Float ∷ []) int)
    ∷ row opcode.f2l opcode.f2l (turns (wants.Float ∷ []) long)
    ∷ row opcode.f2d opcode.f2d (turns (wants.Float ∷ []) double)
    -- d2i, d2l, d2f
    ∷ row opcode.d2i opcode.d2i (turns (wants.Double ∷ []) int)
    ∷ row opcode.d2l opcode.d2l (turns (wants.Double ∷ []) long)
    ∷ row opcode.d2f opcode.d2f (turns (wants.Double ∷ []) float)
    -- i2b, i2c, i2s
    ∷ row opcode.i2b opcode.i2s (turns (wants.Int ∷ []) int)
    -- lcmp
    ∷ row opcode.lcmp opcode.lcmp (turns (wants.Long ∷ wants.Long ∷ []) int)
    -- fcmpl, fcmpg
    ∷ row opcode.fcmpl opcode.fcmpg (turns (wants.Float ∷ wants.Float ∷ []) int)
    -- dcmpl, dcmpg
    ∷ row opcode.dcmpl opcode.dcmpg (turns (wants.Double ∷ wants.Double ∷ []) int)
    -- ifeq to ifle
    ∷ row opcode.ifeq opcode.ifle (takes (wants.Int ∷ []))
    -- if_icmpeq to if_icmple
    ∷ row opcode.if_icmpeq opcode.if_icmple (takes (wants.Int ∷ wants.Int ∷ []))
    -- if_acmpeq, if_acmpne
    ∷ row opcode.if_acmpeq opcode.if_acmpne (takes (wants.Anything ∷ wants.Anything ∷ []))
    -- goto
    ∷ row opcode.goto opcode.goto (one [] [])
    -- tableswitch, lookupswitch
    ∷ row opcode.tableswitch opcode.lookupswitch (takes (wants.Int ∷ []))
    -- ireturn
    ∷ row opcode.ireturn opcode.ireturn (takes (wants.Int ∷ []))
    -- lreturn
    ∷ row opcode.lreturn opcode.lreturn (takes (wants.Long ∷ []))
    -- freturn
    ∷ row opcode.freturn opcode.freturn (takes (wants.Float ∷ []))
    -- dreturn
    ∷ row opcode.dreturn opcode.dreturn (takes (wants.Double ∷ []))
    -- areturn
    ∷ row opcode.areturn opcode.areturn (takes (wants.Reference ∷ []))
    -- return
    ∷ row opcode.return opcode.return (one [] [])
    -- arraylength
    ∷ row opcode.arraylength opcode.arraylength (turns (wants.Reference ∷ []) int)
    -- athrow
    ∷ row opcode.athrow opcode.athrow (takes (wants.Reference ∷ []))
    -- monitorenter, monitorexit
    ∷ row opcode.monitorenter opcode.monitorexit (takes (wants.Anything ∷ []))
    -- ifnull, ifnonnull
    ∷ row opcode.ifnull opcode.ifnonnull (takes (wants.Anything ∷ []))
    ∷ []

abbrev pub find : ℕ → List Row → List StackEffect
find op [] = []
find op (r ∷ rows) = if nat_le r.first op && nat_le op r.last then r.forms else find op rows

-- the forms of an opcode. It has none where it isn't in the table
unfoldable pub forms_at : ℕ → List StackEffect
forms_at op = find op table
