-- What stops a request, as an error of a crate below comes to it.
use Rattle.std.specs.Prelude.{◌≡◌}
use Rattle.bddl_model.specs.declared.check.CheckFault.{CheckFault}
use Rattle.bddl_model.specs.declared.check.CheckFault.TheVariants as check
use Rattle.bddl_model.specs.declared.certificate.CertReadFault.{CertReadFault}
use Rattle.bddl_model.specs.declared.certificate.CertReadFault.TheVariants as cert_text
use Rattle.bddl_model.specs.declared.certificate.CertFault.{CertFault}
use Rattle.bddl_model.specs.declared.certificate.CertFault.TheVariants as cert
use Rattle.bddl_model.specs.declared.fault.QFault.{QFault}
use Rattle.bddl_model.specs.declared.fault.QFault.TheVariants as formula
use Rattle.io_edge.specs.declared.sink.SinkEnd.{SinkEnd}
use Rattle.io_edge.specs.declared.sink.SinkEnd.TheVariants as sink
use Rattle.request_parts.specs.declared.refusal.Content.{Content}
use Rattle.request_parts.specs.declared.refusal.Content.TheVariants as content
use Rattle.request_parts.specs.declared.refusal.Refusal.{Refusal}
use Rattle.request_parts.specs.declared.refusal.Refusal.TheVariants as refusal
use Rattle.request_parts.specs.declared.refusal.Stop.{Stop}
use Rattle.request_parts.specs.declared.refusal.Stop.TheVariants as stop

abbrev pub stop_of_sink : {R : Type 0} → SinkEnd → Stop R
stop_of_sink sink.Failed = stop.WriteFault
stop_of_sink sink.NoMemory = stop.NoMemory

-- want of memory stops it as such, and a fault of the game as this fault
abbrev pub IsStopOf : CheckFault → Stop Content → Type 0
IsStopOf fault stop.NoMemory = fault ≡ check.NoMemory
IsStopOf fault (stop.Refused (content.Check f)) = f.fault ≡ fault
IsStopOf fault _ = ⊥

-- want of memory stops it as such, and a fault of the text as this fault
abbrev pub IsFormulaStopOf : QFault → Stop Content → Type 0
IsFormulaStopOf fault stop.NoMemory = fault ≡ formula.NoMemory
IsFormulaStopOf fault (stop.Refused (content.Formula f)) = f.fault ≡ fault
IsFormulaStopOf fault _ = ⊥

abbrev pub IsCertTextStopOf : CertReadFault → Stop Content → Type 0
IsCertTextStopOf fault stop.NoMemory = fault ≡ cert_text.NoMemory
IsCertTextStopOf fault (stop.Refused (content.CertText f)) = f.fault ≡ fault
IsCertTextStopOf fault _ = ⊥

-- want of memory stops it as such, and a fault of the certificate as this fault
abbrev pub IsCertStopOf : CertFault → Stop Content → Type 0
IsCertStopOf fault stop.NoMemory = fault ≡ cert.NoMemory
IsCertStopOf fault (stop.Refused (content.Cert f)) = f.fault ≡ fault
IsCertStopOf fault _ = ⊥

abbrev pub stop_of_content : Stop Content → Stop Refusal
stop_of_content (stop.Refused c) = stop.Refused (refusal.Content c)
stop_of_content stop.WriteFault = stop.WriteFault
stop_of_content stop.NoMemory = stop.NoMemory
