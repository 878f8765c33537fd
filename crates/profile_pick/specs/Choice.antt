-- Which seccomp profile a container gets. Kubernetes 1.27, "Restrict a Container's Syscalls with seccomp":
-- privileged containers always run as Unconfined, and on a node whose kubelet has `seccompDefault`,
-- containers without a profile get RuntimeDefault. API reference, `SecurityContext`: a container's
-- `seccompProfile` takes precedence over the pod's.
use Rattle.std.specs.Prelude.{Bool, true, false, if◌then◌else◌, Option, Some, None}
use Rattle.manifest.specs.declared.containers.Container.{Container}
use Rattle.manifest.specs.declared.profiles.SeccompProfile.{SeccompProfile}
use Rattle.manifest.specs.declared.profiles.SeccompProfile.TheVariants.{RuntimeDefault, Localhost, Unconfined}
use Rattle.profile_pick.specs.declared.choice.Choice.{Choice}
use Rattle.profile_pick.specs.declared.choice.Choice.TheVariants as choice

-- the profile of a container that has none set
abbrev pub node_default : Bool → SeccompProfile
node_default true = RuntimeDefault
node_default false = Unconfined

-- the container's own, else the pod's, else the node's
abbrev pub first_said : Option SeccompProfile → Option SeccompProfile → Bool → SeccompProfile
first_said (Some own) of_pod seccomp_default = own
first_said None (Some of_pod) seccomp_default = of_pod
first_said None None seccomp_default = node_default seccomp_default

abbrev pub choice_of : Option SeccompProfile → Container → Bool → SeccompProfile
choice_of of_pod container seccomp_default = if container.privileged then Unconfined
    else first_said container.profile of_pod seccomp_default

-- the choice, as the profile that it represents
abbrev pub choice_seen : Choice → SeccompProfile
choice_seen choice.RuntimeDefault = RuntimeDefault
choice_seen (choice.Localhost path) = Localhost path.now
choice_seen choice.Unconfined = Unconfined
