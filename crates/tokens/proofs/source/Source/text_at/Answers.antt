use Rattle.tokens.proofs.source.Source.text_at.Goals as goal

pub returns : goal.returns
returns c = cc
