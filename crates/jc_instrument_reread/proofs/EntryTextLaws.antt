-- Entries of tables and attributes are spelled as their forms ask.
use Rattle.std.proofs.Common.{ℕ, ◌-◌, ◌<◌, List, [], ◌++◌, length, map, refl, sym, subst, arith}
use Rattle.std.specs.List.{AllByRecursion}
use Rattle.std.proofs.lemmas.List.{append-nil, map-id}
use Rattle.jc_bytes.proofs.EachLaws.{all_weaker}
use Rattle.jc_bytes.specs.Counted.{counted}
use Rattle.jc_bytes.specs.Grammar.{Grammar}
use Rattle.jc_bytes.specs.BigNumbers.{short, word}
use Rattle.jc_methods.specs.declared.body.Handler.{Handler}
use Rattle.jc_methods.specs.declared.body.LineAt.{LineAt}
use Rattle.jc_methods.specs.declared.body.VarAt.{VarAt}
use Rattle.jc_insn.proofs.ReadBackLaws.{big_short, big_word}
use Rattle.jc_pool.specs.Pool.{PoolValue}
use Rattle.jc_class.specs.ClassFormat.{attribute, HasText}
use Rattle.jc_class.specs.declared.class_file.Attribute.{Attribute}
use Rattle.jc_body.specs.CodeForm.{row, line_entry, var_entry}
use Rattle.jc_instrument_code.specs.CodeText.{attribute_text, counted_text, line_text, row_text, var_text}
use Rattle.jc_instrument_reread.specs.ReadCode.{line_at, row_at, var_at}
use Rattle.jc_instrument_reread.proofs.FormTextLaws.{counted_form_text}

-- the numbers of an entry beside its offsets are numbers of two bytes
pub record IsShortEntry (x : VarAt) : Type 0 where
  pub name : x.name < 65536
  pub desc : x.desc < 65536
  pub slot : x.slot < 65536

module _ (offset : ℕ → ℕ) (few : (k : ℕ) → offset k < 65536) where
  row_is : (h : Handler) → h.class < 65536 → row.Text (row_text offset h) (row_at offset h)
  row_is h class = (
    offset h.start,
    short (offset h.start),
    short (offset h.end) ++ (short (offset h.target) ++ short h.class),
    refl,
    big_short (offset h.start) (few h.start),
    (
      offset h.end,
      short (offset h.end),
      short (offset h.target) ++ short h.class,
      refl,
      big_short (offset h.end) (few h.end),
      (
        offset h.target,
        short (offset h.target),
        short h.class,
        refl,
        big_short (offset h.target) (few h.target),
        (h.class, short h.class, [], sym (append-nil (short h.class)), big_short h.class class, (refl, refl)),
      ),
    ),
  )

  line_is : (l : LineAt) → l.line < 65536 → line_entry.Text (line_text offset l) (line_at offset l)
  line_is l line = (
    offset l.at,
    short (offset l.at),
    short l.line,
    refl,
    big_short (offset l.at) (few l.at),
    (l.line, short l.line, [], sym (append-nil (short l.line)), big_short l.line line, (refl, refl)),
  )

  var_is : (x : VarAt) → IsShortEntry x → var_entry.Text (var_text offset x) (var_at offset x)
  var_is x fits =
      let size = offset x.end - offset x.start in
      let end = few x.end in (
        offset x.start,
        short (offset x.start),
        short size ++ (short x.name ++ (short x.desc ++ short x.slot)),
        refl,
        big_short (offset x.start) (few x.start),
        (
          size,
          short size,
          short x.name ++ (short x.desc ++ short x.slot),
          refl,
          big_short size (omega (arith, end)),
          (
            x.name,
            short x.name,
            short x.desc ++ short x.slot,
            refl,
            big_short x.name fits.name,
            (
              x.desc,
              short x.desc,
              short x.slot,
              refl,
              big_short x.desc fits.desc,
              (x.slot, short x.slot, [], sym (append-nil (short x.slot)), big_short x.slot fits.slot, (refl, refl)),
            ),
          ),
        ),
      )

  abbrev each_is : {X Y : Type 0} → Grammar Y → (X → List ℕ) → (X → Y) → X → Type 0
  each_is g text f x = g.Text (text x) (f x)

  pub rows_are : (handlers : List Handler) → AllByRecursion (λ h. h.class < 65536) handlers
      → AllByRecursion (each_is row (row_text offset) (row_at offset)) handlers
  rows_are handlers all = all_weaker (λ h. h.class < 65536) (each_is row (row_text offset) (row_at offset)) row_is handlers all

  pub lines_are : (lines : List LineAt) → AllByRecursion (λ l. l.line < 65536) lines
      → AllByRecursion (each_is line_entry (line_text offset) (line_at offset)) lines
  lines_are lines all = all_weaker (λ l. l.line < 65536) (each_is line_entry (line_text offset) (line_at offset)) line_is lines all

  pub vars_are : (vars : List VarAt) → AllByRecursion IsShortEntry vars → AllByRecursion (each_is var_entry (var_text offset) (var_at offset)) vars
  vars_are vars all = all_weaker IsShortEntry (each_is var_entry (var_text offset) (var_at offset)) var_is vars all

-- ---- attributes

-- the name stands in the pool, and the numbers fit into their bytes
pub record IsReadable (pool : PoolValue) (a : Attribute) : Type 0 where
  pub named : HasText pool a.name
  pub place : a.name < 65536
  pub size : length a.body < 4294967296

attribute_is : (pool : PoolValue) (a : Attribute) → IsReadable pool a → (attribute (HasText pool)).Text (attribute_text a) a
attribute_is pool a fits = (
  a.name,
  short a.name,
  word (length a.body) ++ a.body,
  refl,
  (big_short a.name fits.place, fits.named),
  (
    length a.body,
    word (length a.body),
    a.body,
    refl,
    big_word (length a.body) fits.size,
    (a.body, a.body, [], sym (append-nil a.body), (refl, refl), (refl, refl)),
  ),
)

-- ---- counted items

pub counted_is : {X Y : Type 0} (g : Grammar Y) (text : X → List ℕ) (f : X → Y) (xs : List X) → length xs < 65536
    → AllByRecursion (λ x. g.Text (text x) (f x)) xs → (counted g).Text (counted_text text xs) (map f xs)
counted_is g text f xs few all = counted_form_text g text f (short (length xs)) xs (big_short (length xs) few) all

pub attributes_are : (pool : PoolValue) (attributes : List Attribute) → length attributes < 65536 → AllByRecursion (IsReadable pool) attributes
    → (counted (attribute (HasText pool))).Text (counted_text attribute_text attributes) attributes
attributes_are pool attributes few all =
    subst (λ (l : List Attribute). (counted (attribute (HasText pool))).Text (counted_text attribute_text attributes) l) (map-id attributes)
    (counted_is (attribute (HasText pool)) attribute_text (λ a. a) attributes few
    (all_weaker (IsReadable pool) (λ a. (attribute (HasText pool)).Text (attribute_text a) a) (attribute_is pool) attributes all))
