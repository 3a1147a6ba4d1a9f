-- What reading a text answers.
use Rattle.std.specs.Prelude.{◌≡◌, ◌⊎◌, Result, Err}
use Rattle.bddl_model.specs.declared.certificate.CertReadFault.{CertReadFault}
use Rattle.bddl_model.specs.declared.certificate.CertReadFault.TheVariants.{NoMemory}

-- the result is this one, unless memory ran out
abbrev pub UnlessNoMemory : {A : Type 0} → Result A CertReadFault → Result A CertReadFault → Type 0
UnlessNoMemory result wanted = (result ≡ wanted) ⊎ (result ≡ Err NoMemory)
