use Rattle.std.proofs.lemmas.Result.{err_from_is_err_and}
use Rattle.x509_der.specs.reads.Join.{join_accepts, join_first, join_second}
use Rattle.x509_keys.specs.Skipping.{skip_before}
use Rattle.x509_keys.specs.facts.Skipping.{skip_before_lawful, pair_whole}
use Rattle.x509_keys.proofs.skipping.read_skip_between.Goals as goal

pub returns-in_err-first : goal.returns-in_err-first
returns-in_err-first g c =
    let s = skip_before g.K.Tags.keep g.G.Field.shape in
    let l = skip_before_lawful g.K.Tags.keep g.G.Field.shape (g.G.Field.lawful c.requires.last) c.requires.skipped in
    let p = err_from_is_err_and c.from_residual.result c.from_residual.ensures.1 in
    rw (p.1, p.2) (join_first (λ j. j.0) (λ j. j.1) pair_whole g.F.Field.shape s (g.F.Field.lawful c.requires.first) l c.requires.second c.args.reader.now c.read.new.reader _ c.in_err-first.ensures)

pub returns-in_err-rest : goal.returns-in_err-rest
returns-in_err-rest g c =
    let s = skip_before g.K.Tags.keep g.G.Field.shape in
    let l = skip_before_lawful g.K.Tags.keep g.G.Field.shape (g.G.Field.lawful c.requires.last) c.requires.skipped in
    let p = err_from_is_err_and c.from_residual-in_err-rest.result c.from_residual-in_err-rest.ensures.1 in
    rw (p.1, p.2) (join_second (λ j. j.0) (λ j. j.1) pair_whole g.F.Field.shape s (g.F.Field.lawful c.requires.first) l c.requires.second c.args.reader.now c.read.new.reader c.read_skip_before.new.reader c.in_ok-first.first _ c.in_ok-first.ensures c.in_err-rest.ensures)

pub returns : goal.returns
returns g c =
    let s = skip_before g.K.Tags.keep g.G.Field.shape in
    let l = skip_before_lawful g.K.Tags.keep g.G.Field.shape (g.G.Field.lawful c.requires.last) c.requires.skipped in
    join_accepts (λ j. j.0) (λ j. j.1) pair_whole g.F.Field.shape s (g.F.Field.lawful c.requires.first) l c.requires.second c.args.reader.now c.read.new.reader c.read_skip_before.new.reader (c.in_ok-first.first, c.in_ok-rest.rest) c.in_ok-first.ensures c.in_ok-rest.ensures
