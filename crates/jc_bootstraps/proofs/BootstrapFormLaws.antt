-- The form of bootstrap methods is read exactly.
use Rattle.std.proofs.Common.{◌≡◌, ℕ, List, [], sym, ◌∙◌, ap, subst}
use Rattle.std.proofs.lemmas.List.{append-nil}
use Rattle.jc_bytes.specs.Decoder.{number_at}
use Rattle.jc_bytes.specs.Grammar.{Agrees}
use Rattle.jc_bytes.specs.ItemForms.{number}
use Rattle.jc_bytes.specs.Parsing.{Good, item}
use Rattle.jc_bytes.proofs.CountedLaws.{agrees_number, agrees_counted}
use Rattle.jc_bytes.proofs.GrammarLaws.{agrees_nothing, agrees_followed, good_is}
use Rattle.jc_bootstraps.specs.Bootstraps.{Bootstrap, bootstrap, bootstraps}
use Rattle.jc_bootstraps.specs.BootstrapsReading.{bootstrap_at, bootstraps_at}

pub agrees_bootstrap : Agrees bootstrap bootstrap_at
unfolding bootstrap_at
agrees_bootstrap =
    agrees_followed _ _ _ _ (agrees_number 2) (λ handle.
    agrees_followed _ _ _ _ (agrees_counted (number 2) (item (number_at 2)) (agrees_number 2)) (λ arguments.
    agrees_nothing (record { handle = handle; arguments = arguments })))

agrees_bootstraps : Agrees bootstraps bootstraps_at
unfolding bootstraps bootstraps_at
agrees_bootstraps = agrees_counted bootstrap bootstrap_at agrees_bootstrap

pub text_read : (body : List ℕ) (entries : List Bootstrap) → bootstraps.Text body entries → bootstraps_at body ≡ Good entries []
text_read body entries text = ap bootstraps_at (sym (append-nil body)) ∙ agrees_bootstraps.again body [] entries text

pub read_text : (body : List ℕ) (entries : List Bootstrap) → bootstraps_at body ≡ Good entries [] → bootstraps.Text body entries
read_text body entries is =
    let t = agrees_bootstraps.good body entries [] is in
    subst (λ (l : List ℕ). bootstraps.Text l entries) (sym (t.1 ∙ append-nil t.0)) t.2

pub one_list : (body : List ℕ) (entries others : List Bootstrap) → bootstraps.Text body entries → bootstraps.Text body others → entries ≡ others
one_list body entries others text other =
    (good_is entries others [] [] (sym (text_read body entries text) ∙ text_read body others other)).0
