-- What is given of the added method's code that was written, and what is read of it.
use Rattle.std.specs.Prelude.{◌≡◌, ⊤, ℕ, ◌+◌, ◌<◌, ◌≤◌, List, [], ◌∷◌, length, Some}
use Rattle.jc_methods.specs.declared.probe_members.Fetch.{Fetch}
use Rattle.jc_methods.specs.declared.probe_members.Fetch.TheVariants as fetches
use Rattle.jc_pool.specs.Lookup.{utf8_of}
use Rattle.jc_pool.specs.Pool.{PoolValue}
use Rattle.jc_body.specs.declared.coded.Coded.{Coded}
use Rattle.jc_body.specs.declared.items.CodeItems.{CodeItems}
use Rattle.jc_emit.specs.Added.{bootstrap_code, init_code, init_stack}
use Rattle.jc_instrument_code.specs.declared.init.AddedPlaces.{AddedPlaces}
use Rattle.jc_instrument_code.specs.InitText.{bootstrap_bytes, count_text, init_bytes, init_frames, named_places}
use Rattle.jc_instrument_reread.specs.WrittenCode.{frames_name}

-- what the method names that keeps the array in a field: the field at a number of two bytes, and the name of its frames' attribute
-- stands in the pool
abbrev pub HasFieldPlaces : Fetch → PoolValue → AddedPlaces → Type 0
HasFieldPlaces fetches.Member pool p = (p.field < 65536) × (utf8_of pool p.frames ≡ Some frames_name)
HasFieldPlaces fetches.Constant pool p = ⊤

-- the places that the code names are numbers of two bytes
pub record IsWrittenInit (fetch : Fetch) (pool : PoolValue) (p : AddedPlaces) : Type 0 where
  pub pool_few : length pool ≤ 65535
  pub id : p.id < 65536
  pub name : p.name < 65536
  pub count : p.count < 65536
  pub fetch_method : p.fetch < 65536
  pub field : HasFieldPlaces fetch pool p

-- ---- the method that keeps the array in a field

-- where the instructions begin, where the push of the number of probes has so many bytes
abbrev pub init_starts : (pushed : ℕ) → List ℕ
init_starts pushed =
    0 ∷ 3 ∷ 4 ∷ 7 ∷ 8 ∷ 11 ∷ 14 ∷ (14 + pushed) ∷ (17 + pushed) ∷ (18 + pushed) ∷ (21 + pushed) ∷ (22 + pushed) ∷ []

abbrev pub init_items : AddedPlaces → (count : ℕ) → CodeItems
init_items p count = record {
  max_stack = init_stack;
  max_locals = 0;
  code = init_bytes (named_places p) (count_text p.count count);
  rows = [];
  attributes = init_frames p.frames p.array (count_text p.count count) ∷ [];
}

abbrev pub init_coded : AddedPlaces → (count : ℕ) → Coded
init_coded p count = record {
  items = init_items p count;
  insns = init_code (named_places p) count;
  starts = init_starts (length (count_text p.count count));
}

-- ---- the bootstrap method

abbrev pub bootstrap_starts : (pushed : ℕ) → List ℕ
bootstrap_starts pushed = 0 ∷ 3 ∷ 6 ∷ (6 + pushed) ∷ (9 + pushed) ∷ (10 + pushed) ∷ []

abbrev pub bootstrap_items : AddedPlaces → (count : ℕ) → CodeItems
bootstrap_items p count = record {
  max_stack = init_stack;
  max_locals = 3;
  code = bootstrap_bytes (named_places p) (count_text p.count count);
  rows = [];
  attributes = [];
}

abbrev pub bootstrap_coded : AddedPlaces → (count : ℕ) → Coded
bootstrap_coded p count = record {
  items = bootstrap_items p count;
  insns = bootstrap_code (named_places p) count;
  starts = bootstrap_starts (length (count_text p.count count));
}
