-- Architectures: their names in templates, those of Go's GOARCH for most, and in OCI runtime-spec 1.1,
-- config-linux, seccomp, "architectures".
use Rattle.std.specs.Prelude.{ℕ, List, codes, if◌then◌else◌, Option, Some, None}
use Rattle.std.specs.Str.{bytes_eq}

unfoldable pub seccomp_arch : List ℕ → Option (List ℕ)
seccomp_arch name =
    if bytes_eq name (codes "amd64") then Some (codes "SCMP_ARCH_X86_64")
    else if bytes_eq name (codes "x86") then Some (codes "SCMP_ARCH_X86")
    else if bytes_eq name (codes "arm") then Some (codes "SCMP_ARCH_ARM")
    else if bytes_eq name (codes "arm64") then Some (codes "SCMP_ARCH_AARCH64")
    else if bytes_eq name (codes "mips") then Some (codes "SCMP_ARCH_MIPS")
    else if bytes_eq name (codes "mips64") then Some (codes "SCMP_ARCH_MIPS64")
    else if bytes_eq name (codes "mips64n32") then Some (codes "SCMP_ARCH_MIPS64N32")
    else if bytes_eq name (codes "mipsel") then Some (codes "SCMP_ARCH_MIPSEL")
    else if bytes_eq name (codes "mipsel64") then Some (codes "SCMP_ARCH_MIPSEL64")
    else if bytes_eq name (codes "mipsel64n32") then Some (codes "SCMP_ARCH_MIPSEL64N32")
    else if bytes_eq name (codes "ppc") then Some (codes "SCMP_ARCH_PPC")
    else if bytes_eq name (codes "ppc64") then Some (codes "SCMP_ARCH_PPC64")
    else if bytes_eq name (codes "ppc64le") then Some (codes "SCMP_ARCH_PPC64LE")
    else if bytes_eq name (codes "riscv64") then Some (codes "SCMP_ARCH_RISCV64")
    else if bytes_eq name (codes "s390") then Some (codes "SCMP_ARCH_S390")
    else if bytes_eq name (codes "s390x") then Some (codes "SCMP_ARCH_S390X")
    else None
