use Rattle.x509_callers.proofs.requester.extension_request.Goals as goal

pub returns : goal.returns
returns g c = rw (c.in_ok-extensions.ensures, c.in_ok-extension.ensures) at c.new_extension_request.ensures
