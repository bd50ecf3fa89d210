use Rattle.std.specs.Prelude.{IfSome}
use Rattle.std.proofs.Common.{ap, refl, subst, ◌∙◌}
use Rattle.x509_pem.specs.Reader.{place_of}
use Rattle.x509_pem.specs.Step.{Steps}
use Rattle.x509_pem.specs.declared.reader.Step.{Step}
use Rattle.x509_pem.proofs.Walk.{walked_none, walked_on, found, finished, failed}
use Rattle.x509_pem.proofs.reader.PemReader.walk.Goals as goal

pub lines-init : goal.lines-init
lines-init g c =
    record {
      walked = walked_none (g.R.Read.remaining c.args.self.now.lines.input) (place_of c.args.self.now);
      limit = refl;
      longest = refl;
    }

pub returns-in-Ok-BlockEnd : goal.returns-in-Ok-BlockEnd
returns-in-Ok-BlockEnd g c =
    found (g.R.Read.remaining c.args.self.now.lines.input) (place_of c.args.self.now) (g.R.Read.remaining c.lines.self.lines.input)
    (place_of c.lines.self) c.in-Ok-BlockEnd.field-0 (g.R.Read.remaining c.step.new.self.lines.input) (place_of c.step.new.self)
    c.lines.invariant.walked c.in-Ok-BlockEnd.field-0-is c.in-Ok-BlockEnd.ensures.stepped

pub returns-in-Ok-InputEnd : goal.returns-in-Ok-InputEnd
returns-in-Ok-InputEnd g c =
    let P : Step → Type 0 =
    λ s. IfSome (g.R.Read.remaining c.lines.self.lines.input) (λ t. Steps s t (place_of c.lines.self)
    (g.R.Read.remaining c.step.new.self.lines.input) (place_of c.step.new.self)) in
    finished c.args.self.now.block.limit c.args.self.now.lines.limit (g.R.Read.remaining c.args.self.now.lines.input)
    (place_of c.args.self.now) (g.R.Read.remaining c.lines.self.lines.input) (place_of c.lines.self)
    (g.R.Read.remaining c.step.new.self.lines.input) (g.R.Read.remaining c.finish.new.self.lines.input) (place_of c.step.new.self)
    (place_of c.finish.new.self) c.finish.result c.lines.invariant.walked (subst P c.in-Ok-InputEnd.field-0-is c.in-Ok-InputEnd.ensures.stepped)
    (ap (λ r. g.R.Read.remaining r) c.finish.ensures.input) c.finish.ensures.ends

pub returns-in-Err : goal.returns-in-Err
returns-in-Err g c =
    failed c.args.self.now.block.limit c.args.self.now.lines.limit c.lines.self.block.limit c.lines.self.lines.limit
    (g.R.Read.remaining c.args.self.now.lines.input) (place_of c.args.self.now) (g.R.Read.remaining c.lines.self.lines.input)
    (place_of c.lines.self) (g.R.Read.remaining c.step.new.self.lines.input) (place_of c.step.new.self) c.in-Err.error
    c.lines.invariant.limit c.lines.invariant.longest c.lines.invariant.walked c.in-Err.ensures.stepped

pub lines-preserved : goal.lines-preserved
lines-preserved g c =
    record {
      walked = walked_on (g.R.Read.remaining c.args.self.now.lines.input) (place_of c.args.self.now)
          (g.R.Read.remaining c.lines.self.lines.input) (place_of c.lines.self) c.in-Ok-Other.field-0 (g.R.Read.remaining c.step.new.self.lines.input)
          (place_of c.step.new.self) c.lines.invariant.walked c.in-Ok-Other.field-0-is c.in-Ok-Other.ensures.stepped;
      limit = c.in-Ok-Other.ensures.limits.0 ∙ c.lines.invariant.limit;
      longest = c.in-Ok-Other.ensures.limits.1 ∙ c.lines.invariant.longest;
    }
