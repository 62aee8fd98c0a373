-- The bootstrap method that gives a class its probe array.
use Rattle.std.specs.Prelude.{◌≡◌, ℕ, List, [], ◌∷◌, ◌++◌, length, Option, Some, None}
use Rattle.jc_methods.specs.ProbeMembers.{init_name, bootstrap_type}
use Rattle.jc_methods.specs.declared.probe_members.Fetch.{Fetch}
use Rattle.jc_methods.specs.declared.probe_members.Fetch.TheVariants as fetches
use Rattle.jc_pool.specs.Lookup.{Member, handle_of}
use Rattle.jc_pool.specs.Pool.{PoolValue}
use Rattle.jc_class.specs.declared.class_file.ClassFile.{ClassFile}
use Rattle.jc_bootstraps.specs.Bootstraps.{Bootstrap, bootstraps, bootstrap_bodies}
use Rattle.jc_bootstraps.specs.declared.bootstraps.LastBootstrap.{LastBootstrap}
use Rattle.jc_instrument.specs.Needed.{bootstrap_handle}

-- the added method of the class with this name, as the Methodref that names it (JVM Specification 4.4.2)
abbrev pub bootstrap_method : (class : List ℕ) → Member
bootstrap_method class = record { tag = 10; class = class; name = init_name; desc = bootstrap_type }

-- ---- the last bootstrap method

-- The class has one BootstrapMethods attribute, of its form; its last entry, which has this number, is the handle of the added method,
-- without arguments (JVM Specification 4.7.23).
pub record IsLastBootstrap (c : ClassFile) (name : List ℕ) (number : ℕ) : Type 0 where
  pub body : List ℕ
  pub single : bootstrap_bodies c.pool c.attributes ≡ body ∷ []
  pub before : List Bootstrap
  pub last : Bootstrap
  pub text : bootstraps.Text body (before ++ last ∷ [])
  pub number_is : number ≡ length before
  pub arguments : last.arguments ≡ []
  pub handle : handle_of c.pool last.handle ≡ Some (bootstrap_handle name)

-- the number of the bootstrap method, where the class gets its array by a constant
abbrev pub HasBootstrap : Fetch → ClassFile → (name : List ℕ) → Option ℕ → Type 0
HasBootstrap fetches.Member c name number = number ≡ None
HasBootstrap fetches.Constant c name None = ⊥
HasBootstrap fetches.Constant c name (Some number) = IsLastBootstrap c name number

-- ---- what is looked at

-- what a place names is that method
pub record IsMethod (class : List ℕ) (m : Member) : Type 0 where
  pub tag_is : m.tag ≡ 10
  pub class_is : m.class ≡ class
  pub name_is : m.name ≡ init_name
  pub desc_is : m.desc ≡ bootstrap_type

-- what is told of a bootstrap method is that it is the handle of that method, without arguments
pub record IsOwn (pool : PoolValue) (class : List ℕ) (last : LastBootstrap) : Type 0 where
  pub arguments : last.arguments ≡ 0
  pub handle : handle_of pool last.handle ≡ Some (bootstrap_handle class)
