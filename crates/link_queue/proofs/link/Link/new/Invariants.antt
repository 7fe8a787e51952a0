use Rattle.link_rule.specs.Legal.{name_of}
use Rattle.link_queue.proofs.link.Link.new.Given as goal

abbrev pub ghosts-named : goal.ghosts-named
ghosts-named g a = record { name = name_of a._place.value.network.now a._place.value.vertex a._place.value.port }
