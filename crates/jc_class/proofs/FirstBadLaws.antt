-- What is left at a failing item is no longer than all the bytes.
use Rattle.std.proofs.Common.{◌≡◌, ◌⊎◌, inl, inr, ℕ, zero, suc, ◌-◌, ◌≤◌, Bool, true, false, List, [], ◌∷◌, ◌++◌, length, Option, Some, None, ap, arith, length-append}
use Rattle.jc_bytes.specs.Counted.{counted}
use Rattle.jc_bytes.specs.ItemForms.{number}
use Rattle.jc_bytes.specs.Grammar.{Grammar, nothing, one, followed_by, times, WholeFails}
use Rattle.jc_bytes.proofs.GrammarLaws.{whole_or_fails, never_both, one_value, one_failure}
use Rattle.jc_pool.specs.declared.entry.Entry.{Entry}
use Rattle.jc_pool.specs.Pool.{PoolValue, is_wide}
use Rattle.jc_pool.specs.EntryFormat.{IsEntry}
use Rattle.jc_pool.specs.PoolGrammar.{IsCount, IsNarrow, behind, by_size, places, pool}
use Rattle.jc_class.specs.declared.class_file.Attribute.{Attribute}
use Rattle.jc_class.specs.declared.class_file.ClassFile.{ClassFile}
use Rattle.jc_class.specs.ClassFormat.{HasText, HasFieldDescriptor, HasMethodDescriptor}
use Rattle.jc_class.specs.ClassFormat.{attribute, field_attribute, member_of, member, field, class_file}
use Rattle.jc_class.specs.ClassReading.{class_at}
use Rattle.jc_class.specs.ClassText.{ClassText, FirstBad}
use Rattle.jc_class.proofs.ClassLaws.{class_agrees}

record FailsInside {X : Type 0} (g : Grammar X) : Type 0 where
  inside : (bytes left : List ℕ) → g.Fails bytes left → length left ≤ length bytes

inside_nothing : {X : Type 0} (x : X) → FailsInside (nothing x)
inside_nothing x = record { inside = λ bytes left f. absurd f }

inside_one : {X : Type 0} (Item : List ℕ → X → Type 0) → FailsInside (one Item)
inside_one Item = record { inside = λ bytes left f. omega (arith, ap length f.0) }

inside_followed : {X Y : Type 0} (g : Grammar X) (f : X → Grammar Y) → FailsInside g → ((x : X) → FailsInside (f x)) → FailsInside (followed_by g f)
inside_followed {X} {Y} g f first more = record { inside = λ bytes left fails. by bytes left fails }
  where
    by : (bytes left : List ℕ) → (followed_by g f).Fails bytes left → length left ≤ length bytes
    by bytes left (inl stop) = first.inside bytes left stop
    by bytes left (inr later) = omega (arith, (more later.0).inside later.2 left later.5, ap length later.3, length-append later.1 later.2)

inside_times : {X : Type 0} (n : ℕ) (g : Grammar X) → FailsInside g → FailsInside (times n g)
inside_times zero g first = inside_nothing []
inside_times {X} (suc n) g first =
    inside_followed g (λ x. followed_by (times n g) (λ xs. nothing (x ∷ xs))) first
    (λ x. inside_followed (times n g) (λ xs. nothing (x ∷ xs)) (inside_times n g first) (λ xs. inside_nothing (x ∷ xs)))

inside_counted : {X : Type 0} (g : Grammar X) → FailsInside g → FailsInside (counted g)
inside_counted g first = inside_followed (number 2) (λ n. times n g) (inside_one _) (λ n. inside_times n g first)

-- ---- the pool

inside_behind : (front : List (Option Entry)) (g : Grammar (List (Option Entry))) → FailsInside g → FailsInside (behind front g)
inside_behind front g first = inside_followed g (λ rest. nothing (front ++ rest)) first (λ rest. inside_nothing (front ++ rest))

inside_by_size : (wide : Bool) (g h : Grammar (List (Option Entry))) → FailsInside g → FailsInside h → FailsInside (by_size wide g h)
inside_by_size true g h a b = a
inside_by_size false g h a b = b

inside_places : (n : ℕ) → FailsInside (places n)
inside_places zero = inside_nothing []
inside_places (suc zero) = inside_followed (one IsNarrow) (λ e. nothing (Some e ∷ [])) (inside_one IsNarrow) (λ e. inside_nothing (Some e ∷ []))
inside_places (suc (suc n)) =
    inside_followed (one IsEntry) (λ e. by_size (is_wide e) (behind (Some e ∷ None ∷ []) (places n)) (behind (Some e ∷ []) (places (suc n)))) (inside_one IsEntry)
    (λ e. inside_by_size (is_wide e) (behind (Some e ∷ None ∷ []) (places n)) (behind (Some e ∷ []) (places (suc n)))
    (inside_behind (Some e ∷ None ∷ []) (places n) (inside_places n)) (inside_behind (Some e ∷ []) (places (suc n)) (inside_places (suc n))))

inside_pool : FailsInside pool
inside_pool = inside_followed (one IsCount) (λ n. behind (None ∷ []) (places (n - 1))) (inside_one IsCount) (λ n. inside_behind (None ∷ []) (places (n - 1)) (inside_places (n - 1)))

-- ---- the class file

inside_attribute : (HasName : ℕ → Type 0) → FailsInside (attribute HasName)
inside_attribute HasName =
    inside_followed _ _ (inside_one _) (λ name.
    inside_followed _ _ (inside_one _) (λ size.
    inside_followed _ _ (inside_one _) (λ body.
    inside_nothing (record { name = name; body = body }))))

inside_field_attribute : (entries : PoolValue) (flags : ℕ) → FailsInside (field_attribute entries flags)
inside_field_attribute entries flags =
    inside_followed _ _ (inside_one _) (λ name.
    inside_followed _ _ (inside_one _) (λ size.
    inside_followed _ _ (inside_one _) (λ body.
    inside_nothing (record { name = name; body = body }))))

inside_member : (HasName HasDescriptor : ℕ → Type 0) (of : ℕ → Grammar Attribute) → ((flags : ℕ) → FailsInside (of flags))
    → FailsInside (member_of HasName HasDescriptor of)
inside_member HasName HasDescriptor of each =
    inside_followed _ _ (inside_one _) (λ flags.
    inside_followed _ _ (inside_one _) (λ name.
    inside_followed _ _ (inside_one _) (λ desc.
    inside_followed _ _ (inside_counted (of flags) (each flags)) (λ attributes.
    inside_nothing (record { flags = flags; name = name; desc = desc; attributes = attributes })))))

inside_method : (entries : PoolValue) → FailsInside (member (HasText entries) (HasMethodDescriptor entries))
inside_method entries =
    inside_member (HasText entries) (HasMethodDescriptor entries) (λ flags. attribute (HasText entries)) (λ flags. inside_attribute (HasText entries))

inside_field : (entries : PoolValue) → FailsInside (field entries)
inside_field entries = inside_member (HasText entries) (HasFieldDescriptor entries) (field_attribute entries) (inside_field_attribute entries)

inside_class : FailsInside class_file
unfolding class_file
inside_class =
    inside_followed _ _ (inside_one _) (λ _.
    inside_followed _ _ (inside_one _) (λ minor.
    inside_followed _ _ (inside_one _) (λ major.
    inside_followed _ _ inside_pool (λ pool.
    inside_followed _ _ (inside_one _) (λ flags.
    inside_followed _ _ (inside_one _) (λ this_class.
    inside_followed _ _ (inside_one _) (λ super_class.
    inside_followed _ _ (inside_counted _ (inside_one _)) (λ interfaces.
    inside_followed _ _ (inside_counted _ (inside_field pool)) (λ fields.
    inside_followed _ _ (inside_counted _ (inside_method pool)) (λ methods.
    inside_followed _ _ (inside_counted _ (inside_attribute _)) (λ attributes.
    inside_nothing (record {
      minor = minor;
      major = major;
      pool = pool;
      flags = flags;
      this_class = this_class;
      super_class = super_class;
      interfaces = interfaces;
      fields = fields;
      methods = methods;
      attributes = attributes;
    }))))))))))))

inside_whole : (bytes left : List ℕ) → WholeFails class_file bytes left → length left ≤ length bytes
inside_whole bytes left (inl stop) = inside_class.inside bytes left stop
inside_whole bytes left (inr more) = omega (arith, ap length more.2, length-append more.1 left)

-- ---- laws

pub each_text : (bytes : List ℕ) → ((c : ClassFile) × ClassText bytes c) ⊎ ((offset : ℕ) × FirstBad bytes offset)
each_text bytes = by (whole_or_fails class_file class_at class_agrees bytes)
  where
    by : ((c : ClassFile) × ClassText bytes c) ⊎ ((left : List ℕ) × WholeFails class_file bytes left) → ((c : ClassFile) × ClassText bytes c) ⊎ ((offset : ℕ) × FirstBad bytes offset)
    by (inl text) = inl text
    by (inr bad) = let within = inside_whole bytes bad.0 bad.1 in inr (length bytes - length bad.0, (bad.0, bad.1, omega (arith, within)))

pub apart : (bytes : List ℕ) (c : ClassFile) (offset : ℕ) → ClassText bytes c → FirstBad bytes offset → ⊥
apart bytes c offset text bad = never_both class_file class_at class_agrees bytes c bad.0 text bad.1

pub one_class_of : (bytes : List ℕ) (c other : ClassFile) → ClassText bytes c → ClassText bytes other → c ≡ other
one_class_of bytes c other text more = one_value class_file class_at class_agrees bytes c other text more

pub one_place : (bytes : List ℕ) (offset other : ℕ) → FirstBad bytes offset → FirstBad bytes other → offset ≡ other
one_place bytes offset other bad more =
    omega (arith, bad.2, more.2, ap length (one_failure class_file class_at class_agrees bytes bad.0 more.0 bad.1 more.1))
