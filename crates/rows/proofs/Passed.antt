-- A fault that `?` hands on.
use Rattle.std.proofs.Common.{◌≡◌, Result}
use Rattle.std.specs.Result.{IsErrAnd}
use Rattle.std.proofs.lemmas.Result.{err_from_is_err_and}
use Rattle.layout.specs.declared.error.BtfError.{BtfError}
use Rattle.layout.specs.Refusals.{Answer, refused, said, told}

pub passed_on : {A B : Type 0} (means : A → B) (r : Result A BtfError) (fault : BtfError) {whole : Answer B} → IsErrAnd r (λ y. y ≡ fault) → refused (said fault) ≡ whole → told means r ≡ whole
passed_on means r fault h e =
    let p = err_from_is_err_and r h in
    rw (p.1, p.2) e
