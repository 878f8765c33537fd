pub mod SysTable
