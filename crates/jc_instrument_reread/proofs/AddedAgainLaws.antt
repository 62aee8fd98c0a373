-- The method that is added to a class is read as the one that gives its probe array.
use Rattle.std.proofs.Common.{ℕ, ℤ, List, []}
use Rattle.jc_methods.specs.declared.probe_members.Fetch.{Fetch}
use Rattle.jc_methods.specs.declared.probe_members.Fetch.TheVariants as fetches
use Rattle.jc_class.specs.declared.class_file.ClassFile.{ClassFile}
use Rattle.jc_class.specs.declared.class_file.Member.{Member}
use Rattle.jc_instrument_code.specs.declared.init.AddedPlaces.{AddedPlaces}
use Rattle.jc_instrument_reread.specs.Again.{IsReadAsInit}
use Rattle.jc_instrument_reread.specs.Written.{IsAddedMethod}
use Rattle.jc_instrument_reread.proofs.BootstrapAgainLaws.{bootstrap_body, bootstrap_is_body, bootstrap_is}
use Rattle.jc_instrument_reread.proofs.InitAgainLaws.{init_names, init_body, init_is_body, init_is}

pub added_read : (fetch : Fetch) (twin : ClassFile) (owner : List ℕ) (id : ℤ) (count : ℕ) (p : AddedPlaces) (method : Member)
    → IsAddedMethod fetch twin owner id count p method → (number : ℕ) → IsReadAsInit fetch twin number method owner id count
added_read fetches.Member twin owner id count p method w number = record {
  names = init_names twin owner id count p method w;
  body = init_body twin owner id count p method w number;
  is = init_is_body twin owner id count p method w number;
  init_is = init_is twin owner id count p method w number;
}
added_read fetches.Constant twin owner id count p method w number = record {
  names = [];
  body = bootstrap_body twin owner id count p method w number;
  is = bootstrap_is_body twin owner id count p method w number;
  init_is = bootstrap_is twin owner id count p method w number;
}
