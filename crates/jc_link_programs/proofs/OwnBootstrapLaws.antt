-- The bootstrap method that gives a class its probe array is told by the class.
use Rattle.std.proofs.Common.{◌≡◌, ◌↔◌, ℕ, suc, ◌+◌, ◌-◌, IsTrue, Bool, true, false, cond, List, [], ◌∷◌, ◌++◌, map, filter, length, Option, Some, None, option_map, bytes_eq, refl, sym, ap, ◌∙◌, subst, arith, true≢false}
use Rattle.std.proofs.lemmas.Option.{same_Some}
use Rattle.std.proofs.lemmas.List.{length-append}
use Rattle.jc_bytes.proofs.OptionLaws.{none_some, some_is}
use Rattle.jc_methods.specs.ProbeMembers.{bootstraps_name}
use Rattle.jc_methods.specs.declared.probe_members.Fetch.{Fetch}
use Rattle.jc_methods.specs.declared.probe_members.Fetch.TheVariants as fetches
use Rattle.jc_bytes.specs.Decoder.{◌>>=◌}
use Rattle.jc_pool.specs.Lookup.{entry_of, handle_of, handle_parts, handle_parts_in, member_of, reference_of, utf8_of, Handle, Member}
use Rattle.jc_pool.specs.Pool.{PoolValue}
use Rattle.jc_pool.specs.declared.entry.Entry.{Entry}
use Rattle.jc_pool.specs.declared.entry.Entry.TheVariants as entry
use Rattle.jc_pool.proofs.LinkedKeyLaws.{has_handle, is_handled, member_reference, reference_member}
use Rattle.jc_class.specs.declared.class_file.Attribute.{Attribute}
use Rattle.jc_class.specs.declared.class_file.ClassFile.{ClassFile}
use Rattle.jc_body.specs.Attributes.{bodies_of, is_text}
use Rattle.jc_class.specs.ItemReading.{passes}
use Rattle.jc_bootstraps.specs.Bootstraps.{Bootstrap, EndsWith, bootstraps, bootstrap_bodies, told_of}
use Rattle.jc_bootstraps.specs.declared.bootstraps.LastBootstrap.{LastBootstrap}
use Rattle.jc_bootstraps.proofs.BootstrapFormLaws.{one_list}
use Rattle.jc_instrument.specs.Needed.{bootstrap_handle}
use Rattle.jc_link_programs.specs.OwnBootstrap.{HasBootstrap, IsLastBootstrap, IsMethod, IsOwn, bootstrap_method}
use Rattle.jc_link_programs.specs.Statics.{single}

-- ---- the attributes of the name

-- a text is tested alike
tested_alike : (name : List ℕ) (there : Option (List ℕ)) → is_text name there ≡ passes (λ text. bytes_eq text name) there
tested_alike name None = refl
tested_alike name (Some text) = refl

module _ (pool : PoolValue) where
  abbrev named : List Attribute → List Attribute
  named = filter (λ (x : Attribute). is_text bootstraps_name (utf8_of pool x.name))

  abbrev passing : List Attribute → List Attribute
  passing = filter (λ (x : Attribute). passes (λ text. bytes_eq text bootstraps_name) (utf8_of pool x.name))

  abbrev held : List Attribute → List (List ℕ)
  held = map (λ (x : Attribute). x.body)

  named_bodies : (attributes : List Attribute) → bodies_of pool bootstraps_name attributes ≡ bootstrap_bodies pool attributes
  named_bodies [] = refl
  named_bodies (a ∷ attributes) =
      by (is_text bootstraps_name (utf8_of pool a.name)) _ (tested_alike bootstraps_name (utf8_of pool a.name)) (named_bodies attributes)
    where
      by : (t u : Bool) → t ≡ u → bodies_of pool bootstraps_name attributes ≡ bootstrap_bodies pool attributes
          → held (cond t (a ∷ named attributes) (named attributes)) ≡ held (cond u (a ∷ passing attributes) (passing attributes))
      by true true same rest = ap (λ (l : List (List ℕ)). a.body ∷ l) rest
      by false false same rest = rest
      by true false same rest = absurd cc
      by false true same rest = absurd cc

single_is : (xs : List (List ℕ)) (x : List ℕ) → single xs ≡ Some x → xs ≡ x ∷ []
single_is [] x is = absurd (none_some is)
single_is (y ∷ []) x is = ap (λ (z : List ℕ). z ∷ []) (some_is is)
single_is (y ∷ z ∷ xs) x is = absurd (none_some is)

-- ---- the handle

pair_is : (x y : ℕ × ℕ) → Some x ≡ Some y → x ≡ y
pair_is x y e = some_is e

parts_in_is : (pool : PoolValue) (e : Entry) (kind at : ℕ) → handle_parts_in pool e ≡ Some (kind, at) → e ≡ entry.MethodHandle kind at
parts_in_is pool (entry.MethodHandle k a) kind at is = by (reference_of pool a) is
  where
    by : (r : Option Member) → option_map {U = ℕ × ℕ} (λ m. (k, a)) r ≡ Some (kind, at) → entry.MethodHandle k a ≡ entry.MethodHandle kind at
    by None is = absurd (none_some is)
    by (Some m) is = let same = pair_is (k, a) (kind, at) is in λ i. entry.MethodHandle ((same i).0) ((same i).1)
parts_in_is pool e kind at is = absurd (none_some is)

entry_is : (pool : PoolValue) (place kind at : ℕ) → handle_parts pool place ≡ Some (kind, at) → entry_of pool place ≡ Some (entry.MethodHandle kind at)
unfolding handle_parts
entry_is pool place kind at parts = by (entry_of pool place) parts
  where
    by : (o : Option Entry) → (o >>= handle_parts_in pool) ≡ Some (kind, at) → o ≡ Some (entry.MethodHandle kind at)
    by None is = absurd (none_some is)
    by (Some e) is = ap Some (parts_in_is pool e kind at is)

-- a handle of a kind stands where its parts do, and what it names
handle_there : (pool : PoolValue) (place kind at : ℕ) (h : Handle) → handle_parts pool place ≡ Some (kind, at) → kind ≡ h.kind
    → reference_of pool at ≡ Some h.target → handle_of pool place ≡ Some h
handle_there pool place kind at h parts same names =
    is_handled pool place at h (entry_is pool place kind at parts ∙ ap (λ k. Some (entry.MethodHandle k at)) same) names

-- the parts of a handle that stands there
parts_there : (pool : PoolValue) (place : ℕ) (h : Handle) → handle_of pool place ≡ Some h
    → (at : ℕ) × (handle_parts pool place ≡ Some (h.kind, at)) × (reference_of pool at ≡ Some h.target)
unfolding handle_parts
parts_there pool place h is =
    let found = has_handle pool place h is in (
      found.0,
      ap (λ (e : Option Entry). e >>= handle_parts_in pool) found.1 ∙ ap (option_map {U = ℕ × ℕ} (λ m. (h.kind, found.0))) found.2,
      found.2,
    )

same_pair : {k m : ℕ} {a b : ℕ} → ◌≡◌ {A = Option (ℕ × ℕ)} (Some (k, a)) (Some (m, b)) → (k ≡ m) × (a ≡ b)
same_pair {k} {m} {a} {b} e =
    let same = pair_is (k, a) (m, b) e in
    (ap (λ (p : ℕ × ℕ). p.0) same, ap (λ (p : ℕ × ℕ). p.1) same)

-- what a place names is the method, or isn't
pub method_told : (pool : PoolValue) (place : ℕ) (class : List ℕ) (m : Member) (t : Bool) → member_of pool place ≡ Some m → IsTrue t ↔ IsMethod class m
    → IsTrue t ↔ (reference_of pool place ≡ Some (bootstrap_method class))
method_told pool place class m t there told = (
  λ yes.
      let is = told.0 yes in
      member_reference pool (bootstrap_method class) place (omega arith, omega arith)
      (there ∙ ap Some (λ i. record { tag = is.tag_is i; class = is.class_is i; name = is.name_is i; desc = is.desc_is i })),
  λ named.
      let same = same_Some m (bootstrap_method class) (sym there ∙ reference_member pool (bootstrap_method class) place named) in
      told.1 (record {
        tag_is = ap (λ (x : Member). x.tag) same;
        class_is = ap (λ (x : Member). x.class) same;
        name_is = ap (λ (x : Member). x.name) same;
        desc_is = ap (λ (x : Member). x.desc) same;
      }),
)

pub no_method : (pool : PoolValue) (place : ℕ) (class : List ℕ) → member_of pool place ≡ None → IsTrue false ↔ (reference_of pool place ≡ Some (bootstrap_method class))
no_method pool place class none = (
  λ no. absurd (true≢false (sym no)),
  λ named. absurd (none_some (sym none ∙ reference_member pool (bootstrap_method class) place named)),
)

-- the handle stands at a place, or doesn't
pub handle_told : (pool : PoolValue) (place : ℕ) (class : List ℕ) (kind at : ℕ) (t : Bool) → handle_parts pool place ≡ Some (kind, at) → kind ≡ 6
    → IsTrue t ↔ (reference_of pool at ≡ Some (bootstrap_method class)) → IsTrue t ↔ (handle_of pool place ≡ Some (bootstrap_handle class))
handle_told pool place class kind at t parts is told = (
  λ yes. handle_there pool place kind at (bootstrap_handle class) parts is (told.0 yes),
  λ stands.
      let found = parts_there pool place (bootstrap_handle class) stands in
      told.1 (ap (reference_of pool) (same_pair (sym parts ∙ found.1)).1 ∙ found.2),
)

pub other_kind : (pool : PoolValue) (place : ℕ) (class : List ℕ) (kind at : ℕ) → handle_parts pool place ≡ Some (kind, at) → (kind ≡ 6 → ⊥)
    → IsTrue false ↔ (handle_of pool place ≡ Some (bootstrap_handle class))
other_kind pool place class kind at parts other = (
  λ no. absurd (true≢false (sym no)),
  λ stands. let found = parts_there pool place (bootstrap_handle class) stands in absurd (other (same_pair (sym parts ∙ found.1)).0),
)

pub no_handle : (pool : PoolValue) (place : ℕ) (class : List ℕ) → handle_parts pool place ≡ None → IsTrue false ↔ (handle_of pool place ≡ Some (bootstrap_handle class))
no_handle pool place class none = (
  λ no. absurd (true≢false (sym no)),
  λ stands. let found = parts_there pool place (bootstrap_handle class) stands in absurd (none_some (sym none ∙ found.1)),
)

-- ---- the last bootstrap method

module _ (c : ClassFile) (name : List ℕ) where
  -- what the only attribute of the name holds
  abbrev only : Option (List ℕ)
  only = single (bodies_of c.pool bootstraps_name c.attributes)

  alone : (body : List ℕ) → only ≡ Some body → bootstrap_bodies c.pool c.attributes ≡ body ∷ []
  alone body is = sym (named_bodies c.pool c.attributes) ∙ single_is (bodies_of c.pool bootstraps_name c.attributes) body is

  pub none_alone : only ≡ None → (number : ℕ) → IsLastBootstrap c name number → ⊥
  none_alone none number h = none_some (sym none ∙ ap single (named_bodies c.pool c.attributes) ∙ ap single h.single)

  ended : (body : List ℕ) → only ≡ Some body → (number : ℕ) (h : IsLastBootstrap c name number) → EndsWith body (told_of h.last)
  ended body is number h =
      let same = one_text (sym h.single ∙ alone body is) in
      (h.before, h.last, subst (λ (l : List ℕ). bootstraps.Text l (h.before ++ h.last ∷ [])) same h.text, refl)
    where
      one_text : {x y : List ℕ} → x ∷ [] ≡ y ∷ [] → x ≡ y
      one_text e = cc

  pub none_ended : (body : List ℕ) → only ≡ Some body → ((last : LastBootstrap) → EndsWith body last → ⊥) → (number : ℕ) → IsLastBootstrap c name number → ⊥
  none_ended body is none number h = none (told_of h.last) (ended body is number h)

  pub other_last : (body : List ℕ) (last : LastBootstrap) → only ≡ Some body → ((other : LastBootstrap) → EndsWith body other → Some last ≡ Some other)
      → (IsOwn c.pool name last → ⊥) → (number : ℕ) → IsLastBootstrap c name number → ⊥
  other_last body last is exact other number h =
      let same = same_Some last (told_of h.last) (exact (told_of h.last) (ended body is number h)) in
      other (subst (IsOwn c.pool name) (sym same) (record { arguments = ap length h.arguments; handle = h.handle }))

  pub last_number_is : (body : List ℕ) (last : LastBootstrap) (count : ℕ) → only ≡ Some body → EndsWith body last → IsOwn c.pool name last
      → ((entries : List Bootstrap) → bootstraps.Text body entries → Some count ≡ Some (length entries)) → IsLastBootstrap c name (count - 1)
  last_number_is body last count is end own counts =
      let e = same_Some count (length (end.0 ++ end.1 ∷ [])) (counts (end.0 ++ end.1 ∷ []) end.2) in
      let size : length (end.0 ++ end.1 ∷ []) ≡ length end.0 + 1 = length-append end.0 (end.1 ∷ []) in
      record {
        body = body;
        single = alone body is;
        before = end.0;
        last = end.1;
        text = end.2;
        number_is = omega (arith, e, size);
        arguments = empty end.1.arguments (sym (ap (λ (l : LastBootstrap). l.arguments) end.3) ∙ own.arguments);
        handle = ap (handle_of c.pool) (sym (ap (λ (l : LastBootstrap). l.handle) end.3)) ∙ own.handle;
      }
    where
      empty : (xs : List ℕ) → length xs ≡ 0 → xs ≡ []
      empty [] none = refl
      empty (x ∷ xs) none = absurd (omega (arith, none))

-- ---- the number

tails : (x y : Bootstrap) (xs ys : List Bootstrap) → x ∷ xs ≡ y ∷ ys → xs ≡ ys
tails x y xs ys e = cc

heads : (x y : Bootstrap) (xs ys : List Bootstrap) → x ∷ xs ≡ y ∷ ys → x ≡ y
heads x y xs ys e = cc

nothing : {x : Bootstrap} {xs : List Bootstrap} → [] ≡ x ∷ xs → ⊥
nothing e = cc

last_of : (front others : List Bootstrap) (b d : Bootstrap) → front ++ b ∷ [] ≡ others ++ d ∷ [] → (length front ≡ length others) × (b ≡ d)
last_of [] [] b d e = (refl, heads b d [] [] e)
last_of [] (y ∷ []) b d e = absurd (nothing (tails b y [] (d ∷ []) e))
last_of [] (y ∷ z ∷ others) b d e = absurd (nothing (tails b y [] (z ∷ (others ++ d ∷ [])) e))
last_of (x ∷ []) [] b d e = absurd (nothing (sym (tails x d (b ∷ []) [] e)))
last_of (x ∷ z ∷ front) [] b d e = absurd (nothing (sym (tails x d (z ∷ (front ++ b ∷ [])) [] e)))
last_of (x ∷ front) (y ∷ others) b d e =
    let later = last_of front others b d (tails x y (front ++ b ∷ []) (others ++ d ∷ []) e) in
    (ap suc later.0, later.1)

one_body : (x y : List ℕ) → x ∷ [] ≡ y ∷ [] → x ≡ y
one_body x y e = cc

-- the last bootstrap method has one number
one_number : (c : ClassFile) (name : List ℕ) (m n : ℕ) → IsLastBootstrap c name m → IsLastBootstrap c name n → m ≡ n
one_number c name m n p q =
    let body = one_body p.body q.body (sym p.single ∙ q.single) in
    let entries = one_list q.body (p.before ++ p.last ∷ []) (q.before ++ q.last ∷ []) (subst (λ (l : List ℕ). bootstraps.Text l (p.before ++ p.last ∷ [])) body p.text) q.text in
    p.number_is ∙ (last_of p.before q.before p.last q.last entries).0 ∙ sym q.number_is

pub one_bootstrap : (fetch : Fetch) (c : ClassFile) (name : List ℕ) (o q : Option ℕ) → HasBootstrap fetch c name o → HasBootstrap fetch c name q → o ≡ q
one_bootstrap fetches.Member c name o q h k = h ∙ sym k
one_bootstrap fetches.Constant c name None q h k = absurd h
one_bootstrap fetches.Constant c name (Some m) None h k = absurd k
one_bootstrap fetches.Constant c name (Some m) (Some n) h k = ap Some (one_number c name m n h k)
