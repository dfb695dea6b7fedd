use Rattle.machine_views.specs.site_machine.specs.packet_wires.specs.Play.{play}
use Rattle.event_findings.specs.Told.{noted_of}
use Rattle.event_findings.proofs.Settled.{found_is, shown_is}
use Rattle.event_findings.proofs.laws.what_is_found_is_told.Goals as goal

pub returns : goal.returns
returns c = record {
  findings = λ site s next event effect is. found_is site (noted_of s event) event s next effect (play s event) is;
  shown = λ s next event effect is. shown_is (noted_of s event) s next effect (play s event) is;
}
