-- Objects before their constructors, as they are kept: what their types become.
use Rattle.std.specs.Prelude.{ℕ, Bool, true, false, nat_eq, if◌then◌else◌}
use Rattle.jc_methods.specs.declared.kind.Kind.{Kind}
use Rattle.jc_methods.specs.declared.kind.Kind.TheVariants as kinds

-- made by the `new` at a place
abbrev pub is_made_by : ℕ → Kind → Bool
is_made_by place (kinds.Uninit at) = nat_eq place at
is_made_by place kind = false

-- what is left when the `new` at a place makes another object
abbrev pub left_by : ℕ → Kind → Kind
left_by place kind = if is_made_by place kind then kinds.Top else kind

-- the types of one object before its constructor
abbrev pub is_one_object : Kind → Kind → Bool
is_one_object (kinds.Uninit at) kind = is_made_by at kind
is_one_object kinds.UninitThis kinds.UninitThis = true
is_one_object old kind = false

-- what is left when the constructor of an object was called
abbrev pub built_in : Kind → Kind → Kind → Kind
built_in old class kind = if is_one_object old kind then class else kind
