-- What the steps answer by which a constant pool takes what an instrumented class needs.
use Rattle.std.specs.Prelude.{⊤, ℕ, ℤ, ◌<◌, List, length, map, codes}
use Rattle.jc_bytes.specs.declared.fail.Fail.{Fail}
use Rattle.jc_bytes.specs.declared.fail.Fail.TheVariants as fails
use Rattle.jc_pool.specs.Pool.{PoolValue}
use Rattle.jc_pool.specs.declared.add.PoolFull.{PoolFull}
use Rattle.jc_methods.specs.ProbeMembers.{data_name, data_type, init_name, init_type, bootstrap_type, bootstraps_name}
use Rattle.jc_instrument.specs.Contents.{Content, text_entry, class_entry, string_entry, long_entry, member_entry, handle_entry, TakesEach}
use Rattle.jc_instrument.specs.Needed.{bootstrap_handle}
use Rattle.jc_instrument_reread.specs.Written.{data_field, init_method, fetch_method}
use Rattle.jc_instrument.specs.declared.needs.Need.{Need}
use Rattle.jc_instrument.specs.declared.needs.Need.TheVariants as needs

-- what is needed by the added members of the class with this name and this id
abbrev pub content_needed : (owner : List ℕ) → (id : ℤ) → Need → Content
content_needed owner id needs.DataName = text_entry data_name
content_needed owner id needs.DataType = text_entry data_type
content_needed owner id needs.InitName = text_entry init_name
content_needed owner id needs.InitType = text_entry init_type
content_needed owner id needs.Field = member_entry (data_field owner)
content_needed owner id needs.Method = member_entry (init_method owner)
content_needed owner id needs.Fetch = member_entry fetch_method
content_needed owner id needs.Code = text_entry (codes "Code")
content_needed owner id needs.Frames = text_entry (codes "StackMapTable")
content_needed owner id needs.Id = long_entry id
content_needed owner id needs.Name = string_entry owner
content_needed owner id needs.Array = class_entry data_type
content_needed owner id needs.BootstrapType = text_entry bootstrap_type
content_needed owner id needs.Handle = handle_entry (bootstrap_handle owner)
content_needed owner id needs.Bootstraps = text_entry bootstraps_name

abbrev pub contents_of : (owner : List ℕ) → (id : ℤ) → List Need → List Content
contents_of owner id list = map (content_needed owner id) list

-- with all of these the pool would have a count above 65,535 (JVM Specification 4.1)
pub record IsTooMuch (old : PoolValue) (contents : List Content) : Type 0 where
  pub new : PoolValue
  pub places : List ℕ
  pub takes : TakesEach old contents new places
  pub many : 65535 < length new

-- memory was refused, or these are too much for the pool
abbrev pub RefusesEach : PoolValue → List Content → Fail PoolFull → Type 0
RefusesEach old contents fails.Memory = ⊤
RefusesEach old contents (fails.Said full) = IsTooMuch old contents
